-- An answer in its room: a status, and what stands behind it.
use Rattle.std.proofs.Common.{◌≡◌, ℕ, zero, suc, ◌-◌, ◌<◌, ◌≤◌, List, [], ◌∷◌, ◌++◌, length, take, drop, get_or, arith, ap, ◌∙◌, sym}
use Rattle.std.proofs.lemmas.List.{take-append-le}
use native.Mathlib.Numerals.{unary_clauses}

pub status_first : (front rest body : List ℕ) (size : ℕ) → 0 < size → size ≤ length front → take size front ≡ body
    → body ≡ get_or (front ++ rest) 0 0 ∷ take (size - 1) (drop 1 (front ++ rest))
status_first [] rest body size some within is = absurd (omega arith)
status_first (f ∷ front) rest body zero some within is = absurd (omega arith)
status_first (f ∷ front) rest body (suc size) some within is =
    let few : size ≤ length front = omega (arith, within) in
    simp unary_clauses (sym is ∙ ap (λ l. f ∷ l) (sym (take-append-le size front rest few)))
