-- Fronts of fronts.
use Rattle.std.proofs.Common.{◌≡◌, ℕ, zero, suc, List, [], ◌∷◌, ◌++◌, take, min, ap, refl, arith, inl, inr}
use Rattle.std.proofs.lemmas.List.{take-take, take_all, length-take}
use Rattle.std.proofs.lemmas.Bool.{cases_lt}

pub take_twice : {X : Type 0} → (n : ℕ) (xs ys : List X) → take n (take n xs ++ ys) ≡ take n (xs ++ ys)
take_twice zero xs ys = refl
take_twice (suc n) [] ys = refl
take_twice (suc n) (x ∷ xs) ys = ap (λ l. x ∷ l) (take_twice n xs ys)

pub take_front : (m n : ℕ) (xs : List ℕ) → take m (take n xs) ≡ take (min m n) xs
take_front m n xs = elim (cases_lt m n) as (λ _. take m (take n xs) ≡ take (min m n) xs) [
  | inl few ↦ (let e : min m n ≡ m = omega arith in rw e (take-take m n xs (omega arith)))
  | inr more ↦ (let e : min m n ≡ n = omega arith in rw e (take_all m (take n xs) (omega (arith, length-take n xs))))
]
