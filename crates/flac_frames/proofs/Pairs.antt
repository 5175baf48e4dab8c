-- Pairs of samples.
use Rattle.std.proofs.Common.{◌≡◌, ℕ, zero, suc, ◌+◌, ◌<◌, ◌≤◌, Bool, true, false, ◌&&◌, List, [], ◌∷◌, ◌++◌, length, take, set, get_or, refl, sym, ap, ◌∙◌, arith, ℤ, pos, Ok, Err, inl, inr}
use Rattle.std.specs.List.{list_all}
use Rattle.std.proofs.lemmas.Bool.{and_right, and_cases}
use Rattle.std.proofs.lemmas.List.{take_more_set, take_all}
use Rattle.std.proofs.lemmas.List.Folds.{list_all-append}
use Rattle.flac_frames.specs.Bits.{fits}
use Rattle.flac_frames.specs.Decorrelation.{each_pair, left_of, right_of, stereo_from}
use Rattle.flac_frames.specs.declared.head.Channels.{Channels}
use Rattle.flac_frames.specs.declared.refusal.FrameError.TheVariants.{TooLarge}

each_pair-suc : (f : ℤ → ℤ → ℤ) (xs ys : List ℤ) (i : ℕ) → i < length xs → i < length ys
    → each_pair f (take (suc i) xs) (take (suc i) ys) ≡ each_pair f (take i xs) (take i ys) ++ f (get_or xs i (pos 0)) (get_or ys i (pos 0)) ∷ []
unfolding each_pair
each_pair-suc f [] ys i h k = absurd (omega arith)
each_pair-suc f (x ∷ xs) [] i h k = absurd (omega arith)
each_pair-suc f (x ∷ xs) (y ∷ ys) zero h k = refl
each_pair-suc f (x ∷ xs) (y ∷ ys) (suc i) h k = ap (λ l. f x y ∷ l) (each_pair-suc f xs ys i (omega arith) (omega arith))

-- one pair more
pub pair_done : (f : ℤ → ℤ → ℤ) (out xs ys : List ℤ) (i : ℕ) (v : ℤ) → i < length out → i < length xs → i < length ys
    → v ≡ f (get_or xs i (pos 0)) (get_or ys i (pos 0))
    → take i out ≡ each_pair f (take i xs) (take i ys)
    → take (i + 1) (set out i v) ≡ each_pair f (take (i + 1) xs) (take (i + 1) ys)
pair_done f out xs ys i v h hx hy e before =
    let t : take (i + 1) (set out i v) ≡ take i out ++ v ∷ [] = take_more_set out i v h in
    let m : each_pair f (take (suc i) xs) (take (suc i) ys) ≡ each_pair f (take i xs) (take i ys) ++ f (get_or xs i (pos 0)) (get_or ys i (pos 0)) ∷ [] = each_pair-suc f xs ys i hx hy in
    let s : i + 1 ≡ suc i = omega arith in
    t ∙ ap (λ l. l ++ v ∷ []) before ∙ ap (λ x. each_pair f (take i xs) (take i ys) ++ x ∷ []) e ∙ rw s (sym m)

pub fits_done : (bits : ℕ) (out : List ℤ) (i : ℕ) (v : ℤ) → i < length out → fits bits v ≡ true → list_all (fits bits) (take i out) ≡ true
    → list_all (fits bits) (take (i + 1) (set out i v)) ≡ true
fits_done bits out i v h one before =
    let a : list_all (fits bits) (take i out ++ v ∷ []) ≡ (list_all (fits bits) (take i out) && list_all (fits bits) (v ∷ [])) = list_all-append (fits bits) (take i out) (v ∷ []) in
    rw (take_more_set out i v h) (a ∙ rw (before, one) refl)

pair_not : (p : ℤ → Bool) (f : ℤ → ℤ → ℤ) (xs ys : List ℤ) (i : ℕ) → i < length xs → i < length ys
    → p (f (get_or xs i (pos 0)) (get_or ys i (pos 0))) ≡ false → list_all p (each_pair f xs ys) ≡ false
unfolding each_pair
pair_not p f [] ys i h k e = absurd (omega arith)
pair_not p f (x ∷ xs) [] i h k e = absurd (omega arith)
pair_not p f (x ∷ xs) (y ∷ ys) zero h k e = rw e refl
pair_not p f (x ∷ xs) (y ∷ ys) (suc i) h k e = and_right (p (f x y)) (list_all p (each_pair f xs ys)) (pair_not p f xs ys i (omega arith) (omega arith) e)

pub stereo_fault : (channels : Channels) (bits : ℕ) (xs ys : List ℤ) (i : ℕ) (a b : ℤ) → i < length xs → i < length ys
    → a ≡ left_of channels (get_or xs i (pos 0)) (get_or ys i (pos 0)) → b ≡ right_of channels (get_or xs i (pos 0)) (get_or ys i (pos 0))
    → (fits bits a && fits bits b) ≡ false → stereo_from channels bits xs ys ≡ Err TooLarge
unfolding stereo_from
stereo_fault channels bits xs ys i a b h k ea eb no_fit = elim (and_cases (fits bits a) (fits bits b) no_fit) [
  | inl l ↦ (let n = pair_not (fits bits) (left_of channels) xs ys i h k (rw ea at l) in rw n refl)
  | inr r ↦ (let n = pair_not (fits bits) (right_of channels) xs ys i h k (rw eb at r) in
      let m = and_right (list_all (fits bits) (each_pair (left_of channels) xs ys)) (list_all (fits bits) (each_pair (right_of channels) xs ys)) n in rw m refl)
]

pub stereo_end : (channels : Channels) (bits : ℕ) (left right xs ys : List ℤ) (i : ℕ) → length left ≡ length xs → length right ≡ length ys → length xs ≡ length ys → length xs ≤ i
    → take i left ≡ each_pair (left_of channels) (take i xs) (take i ys) → take i right ≡ each_pair (right_of channels) (take i xs) (take i ys)
    → list_all (fits bits) (take i left) ≡ true → list_all (fits bits) (take i right) ≡ true
    → stereo_from channels bits xs ys ≡ Ok (left ∷ right ∷ [])
unfolding stereo_from
stereo_end channels bits left right xs ys i hl hr hs h el er fl fr =
    let tl : take i left ≡ left = take_all i left (omega arith) in
    let tr : take i right ≡ right = take_all i right (omega arith) in
    let tx : take i xs ≡ xs = take_all i xs (omega arith) in
    let ty : take i ys ≡ ys = take_all i ys (omega arith) in
    let dl : left ≡ each_pair (left_of channels) xs ys = rw (tl, tx, ty) at el in
    let dr : right ≡ each_pair (right_of channels) xs ys = rw (tr, tx, ty) at er in
    let gl : list_all (fits bits) left ≡ true = rw tl at fl in
    let gr : list_all (fits bits) right ≡ true = rw tr at fr in
    rw (sym dl, sym dr) (rw (gl, gr) refl)
