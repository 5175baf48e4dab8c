-- Left and right come back from what is coded of them.
use Rattle.std.proofs.Common.{◌≡◌, ℕ, zero, suc, ◌+◌, ◌-◌, ◌*◌, ◌%◌, ◌^◌, ◌<◌, ◌≤◌, true, List, [], ◌∷◌, length, refl, ap, arith, Ok, ℤ, pos, negsuc}
use Rattle.std.specs.Prelude.{◌+ℤ◌, ◌-ℤ◌, ◌*ℤ◌, neg_ℤ, ◌<ℤ◌, ◌≤ℤ◌}
use Rattle.std.proofs.Math.Nat.{pow-succ'}
use Rattle.std.specs.List.{All, list_all}
use Rattle.std.specs.Int.{int_shr}
use Rattle.std.proofs.lemmas.Int.{ints}
use Rattle.std.proofs.lemmas.List.Elements.{All-nil, All-cons}
use Rattle.flac_frames.specs.Bits.{fits}
use Rattle.flac_frames.specs.Decorrelation.{first_width, second_width, sum_of, left_of, right_of, each_pair, stereo_from}
use Rattle.flac_frames.specs.FrameChoices.{first_of, second_of}
use Rattle.flac_frames.specs.declared.head.Channels.{Channels}
use Rattle.flac_frames.specs.declared.head.Channels.TheVariants.{Mono, Stereo, LeftSide, SideRight, MidSide}

-- half of an even number
half_of_double : (z : ℤ) → int_shr (z +ℤ z) 1 ≡ z
half_of_double (pos n) = ap pos (omega arith)
half_of_double (negsuc n) = ap negsuc (omega arith)

-- a number, its half rounded down, and its lowest bit
record Halved (z : ℤ) : Type 0 where
  bit : ℕ
  below : bit < 2
  whole : z ≡ int_shr z 1 +ℤ int_shr z 1 +ℤ pos bit

halved : (z : ℤ) → Halved z
halved (pos n) = record { bit = n % 2; below = omega arith; whole = ap pos (omega arith) }
halved (negsuc n) = record { bit = 1 - n % 2; below = omega arith; whole = omega (arith, ints) }

combined : (left right h k : ℤ) (b c : ℕ) → b < 2 → c < 2 → left +ℤ right ≡ h +ℤ h +ℤ pos b → left -ℤ right ≡ k +ℤ k +ℤ pos c
    → pos 2 *ℤ h +ℤ (left -ℤ right -ℤ pos 2 *ℤ k) ≡ left +ℤ right
combined left right h k b c b_below c_below sum difference = omega (arith, ints)

-- the mean has lost the lowest bit of the sum, which is that of the difference
sum-back : (left right : ℤ) → sum_of (int_shr (left +ℤ right) 1) (left -ℤ right) ≡ left +ℤ right
sum-back left right =
    let a : Halved (left +ℤ right) = halved (left +ℤ right) in
    let b : Halved (left -ℤ right) = halved (left -ℤ right) in
    combined left right (int_shr (left +ℤ right) 1) (int_shr (left -ℤ right) 1) a.bit b.bit a.below b.below a.whole b.whole

pub left-back : (channels : Channels) (left right : ℤ) → left_of channels (first_of channels left right) (second_of channels left right) ≡ left
left-back Mono left right = refl
left-back Stereo left right = refl
left-back LeftSide left right = refl
left-back SideRight left right = omega (arith, ints)
left-back MidSide left right =
    let same : left +ℤ right +ℤ (left -ℤ right) ≡ left +ℤ left = omega (arith, ints) in
    rw (sum-back left right) (rw same (half_of_double left))

pub right-back : (channels : Channels) (left right : ℤ) → right_of channels (first_of channels left right) (second_of channels left right) ≡ right
right-back Mono left right = refl
right-back Stereo left right = refl
right-back LeftSide left right = omega (arith, ints)
right-back SideRight left right = refl
right-back MidSide left right =
    let same : left +ℤ right -ℤ (left -ℤ right) ≡ right +ℤ right = omega (arith, ints) in
    rw (sum-back left right) (rw same (half_of_double right))

-- a number between the least and the greatest that so many bits write
record IsWithin (power : ℕ) (z : ℤ) : Type 0 where
  low : neg_ℤ (pos power) ≤ℤ z
  high : z <ℤ pos power

within-fits : (width : ℕ) (z : ℤ) → fits width z ≡ true → IsWithin (2 ^ (width - 1)) z
within-fits width (pos n) h = let lt : n < 2 ^ (width - 1) = grind arith in record { low = omega (arith, ints); high = omega (arith, ints) }
within-fits width (negsuc n) h = let lt : n < 2 ^ (width - 1) = grind arith in record { low = omega (arith, ints); high = omega (arith, ints) }

fits-within : (width : ℕ) (z : ℤ) → IsWithin (2 ^ (width - 1)) z → fits width z ≡ true
fits-within width (pos n) h = let lt : n < 2 ^ (width - 1) = omega (arith, ints, h.high) in grind arith
fits-within width (negsuc n) h = let lt : n < 2 ^ (width - 1) = omega (arith, ints, h.low) in grind arith

-- twice as many numbers by one bit more
double_power : (bits : ℕ) → 1 ≤ bits → 2 ^ (bits + 1 - 1) ≡ 2 * 2 ^ (bits - 1)
double_power zero h = absurd (omega arith)
double_power (suc n) h =
    let left : suc n + 1 - 1 ≡ suc n = omega arith in
    let right : suc n - 1 ≡ n = omega arith in
    rw left (rw right (pow-succ' 2 n))

side-fits : (bits : ℕ) (left right : ℤ) → 1 ≤ bits → fits bits left ≡ true → fits bits right ≡ true → fits (bits + 1) (left -ℤ right) ≡ true
side-fits bits left right some a b =
    let l : IsWithin (2 ^ (bits - 1)) left = within-fits bits left a in
    let r : IsWithin (2 ^ (bits - 1)) right = within-fits bits right b in
    let power : 2 ^ (bits + 1 - 1) ≡ 2 * 2 ^ (bits - 1) = double_power bits some in
    fits-within (bits + 1) (left -ℤ right) (rw power (record { low = omega (arith, ints, l.low, l.high, r.low, r.high); high = omega (arith, ints, l.low, l.high, r.low, r.high) }))

mid-within : (power : ℕ) (left right mid : ℤ) (bit : ℕ) → bit < 2 → left +ℤ right ≡ mid +ℤ mid +ℤ pos bit → IsWithin power left → IsWithin power right → IsWithin power mid
mid-within power left right mid bit below whole l r =
    record { low = omega (arith, ints, l.low, r.low); high = omega (arith, ints, l.high, r.high) }

mid-fits : (bits : ℕ) (left right : ℤ) → fits bits left ≡ true → fits bits right ≡ true → fits bits (int_shr (left +ℤ right) 1) ≡ true
mid-fits bits left right a b =
    let l : IsWithin (2 ^ (bits - 1)) left = within-fits bits left a in
    let r : IsWithin (2 ^ (bits - 1)) right = within-fits bits right b in
    let half : Halved (left +ℤ right) = halved (left +ℤ right) in
    fits-within bits (int_shr (left +ℤ right) 1) (mid-within (2 ^ (bits - 1)) left right (int_shr (left +ℤ right) 1) half.bit half.below half.whole l r)

each-fits : (f : ℤ → ℤ → ℤ) (width bits : ℕ) (lefts rights : List ℤ)
    → ((l r : ℤ) → fits bits l ≡ true → fits bits r ≡ true → fits width (f l r) ≡ true)
    → All (λ x. fits bits x ≡ true) lefts → All (λ x. fits bits x ≡ true) rights
    → All (λ x. fits width x ≡ true) (each_pair f lefts rights)
unfolding each_pair
each-fits f width bits [] rights h a b = All-nil (λ x. fits width x ≡ true)
each-fits f width bits (l ∷ lefts) [] h a b = All-nil (λ x. fits width x ≡ true)
each-fits f width bits (l ∷ lefts) (r ∷ rights) h a b =
    All-cons (λ x. fits width x ≡ true) (f l r) (each_pair f lefts rights) (h l r (a 0 l (omega arith)) (b 0 r (omega arith)))
    (each-fits f width bits lefts rights h (λ k d lt. a (suc k) d (omega arith)) (λ k d lt. b (suc k) d (omega arith)))

first-fits : (channels : Channels) (bits : ℕ) (l r : ℤ) → 1 ≤ bits → fits bits l ≡ true → fits bits r ≡ true
    → fits (first_width channels bits) (first_of channels l r) ≡ true
first-fits Mono bits l r some a b = a
first-fits Stereo bits l r some a b = a
first-fits LeftSide bits l r some a b = a
first-fits SideRight bits l r some a b = side-fits bits l r some a b
first-fits MidSide bits l r some a b = mid-fits bits l r a b

second-fits : (channels : Channels) (bits : ℕ) (l r : ℤ) → 1 ≤ bits → fits bits l ≡ true → fits bits r ≡ true
    → fits (second_width channels bits) (second_of channels l r) ≡ true
second-fits Mono bits l r some a b = b
second-fits Stereo bits l r some a b = b
second-fits LeftSide bits l r some a b = side-fits bits l r some a b
second-fits SideRight bits l r some a b = b
second-fits MidSide bits l r some a b = side-fits bits l r some a b

-- what is coded has its widths
pub firsts-fit : (channels : Channels) (bits : ℕ) (lefts rights : List ℤ) → 1 ≤ bits
    → All (λ x. fits bits x ≡ true) lefts → All (λ x. fits bits x ≡ true) rights
    → All (λ x. fits (first_width channels bits) x ≡ true) (each_pair (first_of channels) lefts rights)
firsts-fit channels bits lefts rights some a b =
    each-fits (first_of channels) (first_width channels bits) bits lefts rights (λ l r x y. first-fits channels bits l r some x y) a b

pub seconds-fit : (channels : Channels) (bits : ℕ) (lefts rights : List ℤ) → 1 ≤ bits
    → All (λ x. fits bits x ≡ true) lefts → All (λ x. fits bits x ≡ true) rights
    → All (λ x. fits (second_width channels bits) x ≡ true) (each_pair (second_of channels) lefts rights)
seconds-fit channels bits lefts rights some a b =
    each-fits (second_of channels) (second_width channels bits) bits lefts rights (λ l r x y. second-fits channels bits l r some x y) a b

pub length-each_pair : (f : ℤ → ℤ → ℤ) (lefts rights : List ℤ) → length lefts ≡ length rights → length (each_pair f lefts rights) ≡ length lefts
unfolding each_pair
length-each_pair f [] rights e = refl
length-each_pair f (l ∷ lefts) [] e = absurd (omega arith)
length-each_pair f (l ∷ lefts) (r ∷ rights) e = ap suc (length-each_pair f lefts rights (omega arith))

lefts-back : (channels : Channels) (lefts rights : List ℤ) → length lefts ≡ length rights
    → each_pair (left_of channels) (each_pair (first_of channels) lefts rights) (each_pair (second_of channels) lefts rights) ≡ lefts
unfolding each_pair
lefts-back channels [] rights e = refl
lefts-back channels (l ∷ lefts) [] e = absurd (omega arith)
lefts-back channels (l ∷ lefts) (r ∷ rights) e =
    rw (left-back channels l r) (ap (λ rest. l ∷ rest) (lefts-back channels lefts rights (omega arith)))

rights-back : (channels : Channels) (lefts rights : List ℤ) → length lefts ≡ length rights
    → each_pair (right_of channels) (each_pair (first_of channels) lefts rights) (each_pair (second_of channels) lefts rights) ≡ rights
unfolding each_pair
rights-back channels [] [] e = refl
rights-back channels [] (r ∷ rights) e = absurd (omega arith)
rights-back channels (l ∷ lefts) [] e = absurd (omega arith)
rights-back channels (l ∷ lefts) (r ∷ rights) e =
    rw (right-back channels l r) (ap (λ rest. r ∷ rest) (rights-back channels lefts rights (omega arith)))

all_fit : (bits : ℕ) (samples : List ℤ) → All (λ x. fits bits x ≡ true) samples → list_all (fits bits) samples ≡ true
all_fit bits [] h = refl
all_fit bits (x ∷ samples) h =
    let here : fits bits x ≡ true = h 0 x (omega arith) in
    rw here (all_fit bits samples (λ k d lt. h (suc k) d (omega arith)))

pub stereo-back : (channels : Channels) (bits : ℕ) (lefts rights : List ℤ) → length lefts ≡ length rights
    → All (λ x. fits bits x ≡ true) lefts → All (λ x. fits bits x ≡ true) rights
    → stereo_from channels bits (each_pair (first_of channels) lefts rights) (each_pair (second_of channels) lefts rights) ≡ Ok (lefts ∷ rights ∷ [])
unfolding stereo_from
stereo-back channels bits lefts rights e a b =
    rw (lefts-back channels lefts rights e) (rw (rights-back channels lefts rights e)
    (rw (all_fit bits lefts a) (rw (all_fit bits rights b) refl)))
