-- A slice of a list, whose end may lie behind it.
use Rattle.std.proofs.Common.{◌≡◌, ℕ, zero, suc, ◌+◌, ◌-◌, ◌<◌, ◌≤◌, List, [], ◌∷◌, length, take, drop, min, inl, inr, refl, sym, ap, ◌∙◌}
use Rattle.std.proofs.Common.{arith}
use Rattle.std.proofs.lemmas.List.{drop-take}
use Rattle.std.proofs.lemmas.Bool.{cases_lt}

pub all_taken : {X : Type 0} (n : ℕ) (xs : List X) → length xs ≤ n → take n xs ≡ xs
all_taken zero [] h = refl
all_taken zero (x ∷ xs) h = absurd (omega arith)
all_taken (suc n) [] h = refl
all_taken {X} (suc n) (x ∷ xs) h = ap (λ (ys : List X). x ∷ ys) (all_taken n xs (omega arith))

take_least : {X : Type 0} (e : ℕ) (xs : List X) → take (min e (length xs)) xs ≡ take e xs
take_least {X} e xs = elim (cases_lt e (length xs)) [
  | inl within ↦ let same : min e (length xs) ≡ e = omega arith in ap (λ n. take n xs) same
  | inr behind ↦ let same : min e (length xs) ≡ length xs = omega arith in ap (λ n. take n xs) same ∙ all_taken (length xs) xs (omega arith)
      ∙ sym (all_taken e xs behind)
]

pub window_is : {X : Type 0} (s e : ℕ) (xs : List X) → s < min e (length xs) → take (min e (length xs) - s) (drop s xs) ≡ drop s (take e xs)
window_is {X} s e xs h =
    let m = min e (length xs) in
    let whole : s + (m - s) ≡ m = omega arith in
    sym (drop-take s (m - s) xs) ∙ ap (λ n. drop s (take n xs)) whole ∙ ap (drop s) (take_least e xs)
