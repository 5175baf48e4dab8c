-- How many leaves are looked at grows with how often each is, or there is none.
use Rattle.std.proofs.Common.{◌≡◌, ◌⊎◌, ℕ, zero, suc, ◌+◌, ◌*◌, ◌≤◌, ◌<◌, min, length, ap, ◌∙◌, inl, inr, ⊎_elim, arith}
use Rattle.std.proofs.lemmas.Bool.{cases_lt}
use Rattle.std.proofs.Math.Nat.{suc-mul, mul-suc}
use Rattle.regular_expr.specs.Shape.{Shape, visits}
use Rattle.regular_expr.specs.Shape.Shape.{Nothing, One, At, Then, Either, Again, Times}

abbrev Grows : (ℕ → ℕ) → Type 0
Grows f = ((each : ℕ) → f each ≡ 0) ⊎ ((each : ℕ) → each ≤ f each)

times_grows : (n : ℕ) → Grows (λ each. each * n)
times_grows zero = inl (λ each. omega arith)
times_grows (suc n) =
    inr (λ each.
    let e : each * suc n ≡ each * n + each = mul-suc each n in
    omega arith)

sum_grows : (f g : ℕ → ℕ) → Grows f → Grows g → Grows (λ each. f each + g each)
sum_grows f g (inl p) (inl q) = inl (λ each. omega (arith, p each, q each))
sum_grows f g (inl p) (inr q) = inr (λ each. omega (arith, p each, q each))
sum_grows f g (inr p) q = inr (λ each. omega (arith, p each))

more_grows : (f : ℕ → ℕ) → Grows f → Grows (λ each. f (each + 1))
more_grows f (inl p) = inl (λ each. p (each + 1))
more_grows f (inr p) = inr (λ each. omega (arith, p (each + 1)))

so_often_grows : (n : ℕ) (f : ℕ → ℕ) → Grows f → Grows (λ each. n * f each)
so_often_grows zero f p = inl (λ each. omega arith)
so_often_grows (suc n) f (inl p) =
    inl (λ each.
    let none : suc n * 0 ≡ 0 = omega arith in
    ap (λ (k : ℕ). suc n * k) (p each) ∙ none)
so_often_grows (suc n) f (inr p) =
    inr (λ each.
    let e : suc n * f each ≡ n * f each + f each = suc-mul n (f each) in
    omega (arith, p each))

visits_grow : (p : Shape) → Grows (λ each. visits each p)
visits_grow Nothing = inr (λ each. omega arith)
visits_grow (One set) = times_grows (length set.ranges)
visits_grow (At place) = inr (λ each. omega arith)
visits_grow (Then p q) = sum_grows (λ each. visits each p) (λ each. visits each q) (visits_grow p) (visits_grow q)
visits_grow (Either p q) = sum_grows (λ each. visits each p) (λ each. visits each q) (visits_grow p) (visits_grow q)
visits_grow (Again p) = more_grows (λ each. visits each p) (visits_grow p)
visits_grow (Times least more p) = so_often_grows (least + more) (λ each. visits each p) (visits_grow p)

capped : (f : ℕ → ℕ) (each : ℕ) → Grows f → 65535 ≤ each → min (f 65535) 65535 ≡ min (f (each + 1)) 65535
capped f each (inl p) le = omega (arith, p 65535, p (each + 1))
capped f each (inr p) le = omega (arith, p 65535, p (each + 1))

-- Counted up to 65535, they are as many where each is counted up to that.
pub visits_capped : (p : Shape) (each : ℕ) → min (visits (min (each + 1) 65535) p) 65535 ≡ min (visits (each + 1) p) 65535
visits_capped p each =
    ⊎_elim
    (λ (lt : each < 65535).
    let same : min (each + 1) 65535 ≡ each + 1 = omega arith in
    ap (λ (k : ℕ). min (visits k p) 65535) same)
    (λ (le : 65535 ≤ each).
    let same : min (each + 1) 65535 ≡ 65535 = omega arith in
    ap (λ (k : ℕ). min (visits k p) 65535) same ∙ capped (λ each. visits each p) each (visits_grow p) le)
    (cases_lt each 65535)
