-- A list parted at a place, and tests of each element before it.
use Rattle.std.proofs.Common.{◌≡◌, ℕ, zero, suc, ◌+◌, ◌<◌, ◌≤◌, List, [], ◌∷◌, ◌++◌, length, take, drop, get_or, Bool, true, false, refl}
use Rattle.std.proofs.Common.{sym, ◌∙◌, ap, ◌==◌, arith, add-one, drop-cons}
use Rattle.std.proofs.lemmas.List.{take-append-drop, append-nil}
use Rattle.std.proofs.lemmas.Bool.Decides.{Decides-eqb}
use Rattle.std.specs.List.{list_all}

-- a list is what stands before a place, the byte there, and what stands behind
pub parted_at : (s : List ℕ) (q : ℕ) → q < length s → s ≡ take q s ++ (get_or s q 0 ∷ drop (q + 1) s)
parted_at s q h =
    let e : drop q s ≡ get_or s q 0 ∷ drop (q + 1) s = rw (add-one, drop-cons s q 0) refl in
    sym (take-append-drop q s) ∙ ap (λ (r : List ℕ). take q s ++ r) e

pub drop_at : (s : List ℕ) (q : ℕ) → q < length s → drop q s ≡ get_or s q 0 ∷ drop (q + 1) s
drop_at s q h = rw (add-one, drop-cons s q 0) refl

pub take_whole : (s : List ℕ) (n : ℕ) → length s ≤ n → take n s ≡ s
take_whole [] zero h = refl
take_whole [] (suc n) h = refl
take_whole (c ∷ s) zero h = absurd (omega arith)
take_whole (c ∷ s) (suc n) h = ap (λ (r : List ℕ). c ∷ r) (take_whole s n (omega arith))

pub all_before : (test : ℕ → Bool) (s : List ℕ) (n : ℕ) → n ≤ length s → ((k : ℕ) → k < n → test (get_or s k 0) ≡ true)
    → list_all test (take n s) ≡ true
all_before test s zero le p = refl
all_before test [] (suc n) le p = absurd (omega arith)
all_before test (c ∷ s) (suc n) le p =
    let here : test c ≡ true = p 0 (omega arith) in
    rw here (all_before test s n (omega arith) (λ k h. p (suc k) (omega arith)))

-- what a test of emptiness says
pub filled : (s : List ℕ) (r : Bool) → r ≡ (length s == 0) → r ≡ false → 0 < length s
filled [] r e f = cc
filled (c ∷ s) r e f = omega arith

pub hollow : (s : List ℕ) (r : Bool) → r ≡ (length s == 0) → r ≡ true → s ≡ []
hollow [] r e f = refl
hollow (c ∷ s) r e f = absurd (omega (arith, (Decides-eqb (length (c ∷ s)) 0).0 (sym e ∙ f)))

pub nothing_behind : (s : List ℕ) → s ++ [] ≡ s
nothing_behind s = append-nil s
