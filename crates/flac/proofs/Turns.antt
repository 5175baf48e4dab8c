-- Samples side by side, and pieces of them.
use Rattle.std.proofs.Common.{◌≡◌, ℕ, zero, suc, ◌+◌, ◌-◌, ◌*◌, ◌/◌, ◌%◌, ◌<◌, ◌≤◌, List, [], ◌∷◌, length, take, drop, min, arith, ap, ◌∙◌, sym, refl}
use Rattle.std.proofs.Common.{Some, None, get_or, slice_range, Bool, true, false, pos, inl, inr}
use Rattle.std.specs.Prelude.{ℤ, slice_get, ◌==◌, if◌then◌else◌}
use Rattle.std.proofs.Math.Nat.{mul-le-mul_left}
use Rattle.std.proofs.lemmas.List.{ext_get_or, get_or-take, get_or-drop, length-take, length-drop, drop-take, take-take, drop-drop, take_all, nil_from_length}
use Rattle.std.proofs.lemmas.Bool.Decides.{nat_tests}
use Rattle.std.proofs.lemmas.Bool.{cases_lt}
use Rattle.flac.specs.Frames.{in_turn, side_by_side, limited}
use Rattle.flac.specs.Reader.{all_samples}
use Rattle.flac.specs.declared.stream_info.StreamInfo.{StreamInfo}
use Rattle.flac.proofs.Decodings.{length-in_turn}

range_is : {A : Type 0} (xs : List A) (at n : ℕ) → slice_range xs at (at + n) ≡ take n (drop at xs)
range_is xs at n = let e : at + n - at ≡ n = omega arith in rw e refl

turn_even : (xs ys : List ℤ) (i : ℕ) (d : ℤ) → i < length xs → i < length ys → get_or (in_turn xs ys) (2 * i) d ≡ get_or xs i d
turn_even [] ys i d a b = absurd (omega arith)
turn_even (x ∷ xs) [] i d a b = absurd (omega arith)
turn_even (x ∷ xs) (y ∷ ys) zero d a b = refl
turn_even (x ∷ xs) (y ∷ ys) (suc i) d a b =
    let e : 2 * suc i ≡ suc (suc (2 * i)) = omega arith in
    ap (λ n. get_or (x ∷ y ∷ in_turn xs ys) n d) e ∙ turn_even xs ys i d (omega arith) (omega arith)

turn_odd : (xs ys : List ℤ) (i : ℕ) (d : ℤ) → i < length xs → i < length ys → get_or (in_turn xs ys) (2 * i + 1) d ≡ get_or ys i d
turn_odd [] ys i d a b = absurd (omega arith)
turn_odd (x ∷ xs) [] i d a b = absurd (omega arith)
turn_odd (x ∷ xs) (y ∷ ys) zero d a b = refl
turn_odd (x ∷ xs) (y ∷ ys) (suc i) d a b =
    let e : 2 * suc i + 1 ≡ suc (suc (2 * i + 1)) = omega arith in
    ap (λ n. get_or (x ∷ y ∷ in_turn xs ys) n d) e ∙ turn_odd xs ys i d (omega arith) (omega arith)

pub turn_left : (xs ys : List ℤ) (n : ℕ) (d : ℤ) → n < 2 * min (length xs) (length ys) → n % 2 ≡ 0
    → get_or xs (n / 2) d ≡ get_or (in_turn xs ys) n d
turn_left xs ys n d within even =
    let e : n ≡ 2 * (n / 2) = omega arith in
    sym (ap (λ k. get_or (in_turn xs ys) k d) e ∙ turn_even xs ys (n / 2) d (omega arith) (omega arith))

pub turn_right : (xs ys : List ℤ) (n : ℕ) (d : ℤ) → n < 2 * min (length xs) (length ys) → n % 2 ≡ 1
    → get_or ys (n / 2) d ≡ get_or (in_turn xs ys) n d
turn_right xs ys n d within odd =
    let e : n ≡ 2 * (n / 2) + 1 = omega arith in
    sym (ap (λ k. get_or (in_turn xs ys) k d) e ∙ turn_odd xs ys (n / 2) d (omega arith) (omega arith))

-- a buffer that has each sample
pub turn_all : (xs buffer : List ℤ) (place : ℕ) → place + length buffer ≤ length xs
    → ((j : ℕ) → j < length buffer → get_or buffer j (pos 0) ≡ get_or xs (place + j) (pos 0))
    → buffer ≡ slice_range xs place (place + length buffer)
turn_all xs buffer place within each =
    let n : length (take (length buffer) (drop place xs)) ≡ length buffer = omega (
      arith,
      length-take (length buffer) (drop place xs),
      length-drop place xs,
    ) in
    ext_get_or (pos 0) buffer (take (length buffer) (drop place xs)) (sym n)
    (λ i h. each i h ∙ sym (get_or-take (length buffer) (drop place xs) i (pos 0) h ∙ get_or-drop place xs i (pos 0)))
    ∙ sym (range_is xs place (length buffer))

some_is : {A : Type 0} (x y : A) → Some x ≡ Some y → x ≡ y
some_is x y h = cc

no_some : {A : Type 0} (x : A) → None ≡ Some x → ⊥
no_some x h = cc

pub two_are : (channels : List (List ℤ)) (left right : List ℤ) → Some left ≡ slice_get channels 0 → Some right ≡ slice_get channels 1
    → in_turn left right ≡ side_by_side channels
two_are [] left right first second = absurd (no_some left (sym first))
two_are (xs ∷ []) left right first second = absurd (no_some right (sym second))
two_are (xs ∷ ys ∷ others) left right first second =
    ap (λ l. in_turn l right) (some_is left xs first) ∙ ap (in_turn xs) (some_is right ys second)

pub one_is : (channels : List (List ℤ)) (only : List ℤ) → Some only ≡ slice_get channels 0 → None ≡ slice_get channels 1
    → only ≡ side_by_side channels
one_is [] only first second = absurd (no_some only (sym first))
one_is (xs ∷ []) only first second = some_is only xs first
one_is (xs ∷ ys ∷ others) only first second = absurd (no_some ys second)

pub none_are : (channels : List (List ℤ)) → None ≡ slice_get channels 0 → side_by_side channels ≡ []
none_are [] first = refl
none_are (xs ∷ others) first = absurd (no_some xs first)

-- a piece of the samples that are held
pub piece_of : (all side : List ℤ) (c first count skip n from place m : ℕ) → take (c * count) (drop (c * first) all) ≡ side
    → from ≡ first + skip → skip + n ≤ count → place ≡ skip * c → m ≡ n * c
    → slice_range side place (place + m) ≡ slice_range all (c * from) (c * (from + n))
piece_of all side c first count skip n from place m held at few here size =
    let more : c * (skip + n) ≤ c * count = mul-le-mul_left c few in
    let r : c * count ≡ place + (c * count - place) = omega (arith, more) in
    let room : m ≤ c * count - place = omega (arith, more) in
    let start : c * first + place ≡ c * from = omega (arith, ap (λ k. c * k) at) in
    let end : c * (from + n) ≡ c * from + m = omega arith in
    range_is side place m
    ∙ ap (λ xs. take m (drop place xs)) (sym held ∙ ap (λ k. take k (drop (c * first) all)) r)
    ∙ ap (take m) (drop-take place (c * count - place) (drop (c * first) all))
    ∙ take-take m (c * count - place) (drop place (drop (c * first) all)) room
    ∙ ap (take m) (drop-drop place (c * first) all ∙ ap (λ k. drop k all) start)
    ∙ sym (range_is all (c * from) m) ∙ sym (ap (λ k. slice_range all (c * from) k) end)

-- the same among the samples that STREAMINFO tells of
pub piece_limited : (all : List ℤ) (c total from n : ℕ) → from + n ≤ total
    → slice_range (take (c * total) all) (c * from) (c * (from + n)) ≡ slice_range all (c * from) (c * (from + n))
piece_limited all c total from n few =
    let more : c * (from + n) ≤ c * total = mul-le-mul_left c few in
    let end : c * (from + n) ≡ c * from + c * n = omega arith in
    let r : c * total ≡ c * from + (c * total - c * from) = omega (arith, more) in
    let room : c * n ≤ c * total - c * from = omega (arith, more) in
    ap (λ k. slice_range (take (c * total) all) (c * from) k) end ∙ range_is (take (c * total) all) (c * from) (c * n)
    ∙ ap (λ k. take (c * n) (drop (c * from) (take k all))) r
    ∙ ap (take (c * n)) (drop-take (c * from) (c * total - c * from) all)
    ∙ take-take (c * n) (c * total - c * from) (drop (c * from) all) room
    ∙ sym (range_is all (c * from) (c * n)) ∙ sym (ap (λ k. slice_range all (c * from) k) end)

abbrev limited_by : Bool → StreamInfo → List ℤ → List ℤ
limited_by b info samples = if b then samples else take (info.channels * info.samples) samples

pub unlimited : (info : StreamInfo) (all : List ℤ) → info.samples ≡ 0 → limited info all ≡ all
unlimited info all none = let e : (info.samples == 0) ≡ true = ap (λ n. n == 0) none in ap (λ b. limited_by b info all) e

pub limited_is : (info : StreamInfo) (all : List ℤ) → 0 < info.samples → limited info all ≡ take (info.channels * info.samples) all
limited_is info all some = let e : (info.samples == 0) ≡ false = grind (arith, nat_tests) in ap (λ b. limited_by b info all) e

-- no more samples than STREAMINFO tells of, and than there are
pub limited_total : (info : StreamInfo) (all : List ℤ) → 0 < info.samples → length (limited info all) ≤ info.channels * info.samples
limited_total info all some = rw (limited_is info all some) (omega (arith, length-take (info.channels * info.samples) all))

pub limited_all : (info : StreamInfo) (all : List ℤ) → length (limited info all) ≤ length all
limited_all info all = by_flag (info.samples == 0)
  where
    by_flag : (b : Bool) → length (limited_by b info all) ≤ length all
    by_flag true = omega arith
    by_flag false = omega (arith, length-take (info.channels * info.samples) all)

-- what was read is a piece of the samples that STREAMINFO tells of
pub piece_shown : (info : StreamInfo) (all : List ℤ) (from n : ℕ) → (0 < info.samples → from + n ≤ info.samples)
    → slice_range all (info.channels * from) (info.channels * (from + n))
    ≡ slice_range (limited info all) (info.channels * from) (info.channels * (from + n))
piece_shown info all from n few = elim (cases_lt 0 info.samples) as (λ _. slice_range all (info.channels * from) (info.channels *
    (from + n)) ≡ slice_range (limited info all) (info.channels * from) (info.channels * (from + n))) [
      | inl some ↦ sym (ap (λ xs. slice_range xs (info.channels * from) (info.channels * (from + n))) (limited_is info all some)
          ∙ piece_limited all info.channels info.samples from n (few some))
      | inr none ↦ (let z : info.samples ≡ 0 = omega arith in
          sym (ap (λ xs. slice_range xs (info.channels * from) (info.channels * (from + n))) (unlimited info all z)))
    ]

-- a frame has room for what is copied of it
pub no_room : (c count skip n size : ℕ) → skip + n ≤ count → size ≡ c * count → size < skip * c + n * c → ⊥
no_room c count skip n size few all short = omega (arith, mul-le-mul_left c few)

pub nothing_there : (side buffer : List ℤ) (place : ℕ) → side ≡ [] → place + length buffer ≤ length side
    → buffer ≡ slice_range side place (place + length buffer)
nothing_there side buffer place none within =
    let z : length side ≡ 0 = ap length none in
    nil_from_length buffer (omega arith)
    ∙ sym (nil_from_length (slice_range side place (place + length buffer)) (ap length (range_is side place (length buffer))
    ∙ omega (arith, length-take (length buffer) (drop place side), length-drop place side)))

-- so many samples of each channel have room
pub div_room : (n ch len k : ℕ) → 0 < ch → n ≡ min k (len / ch) → n * ch ≤ len
div_room n ch len k some least = let few : n ≤ len / ch = omega arith in omega (arith, mul-le-mul_left ch few)
