-- What is counted along is how many leaves there are.
use Rattle.std.proofs.Common.{◌≡◌, ℕ, ◌+◌, ◌≤◌, Option, Some, None, refl, sym, ap, ◌∙◌, arith}
use Rattle.std.specs.Prelude.{min}
use Rattle.regular_expr.specs.Leaves.{IsCounted, leaves_behind, leaves_before}
use Rattle.regular_expr.specs.Reading.{followed, joined}
use Rattle.regular_expr.specs.Shape.{Shape, leaves}
use Rattle.regular_expr.specs.Shape.Shape.{Nothing, One, At, Then, Either, Again, Times}

sum_counted : (count n : ℕ) → min (count + min n 65535) 65535 ≡ min (count + n) 65535
sum_counted count n = omega arith

same_counted : (n : ℕ) → min (min n 65535) 65535 ≡ min n 65535
same_counted n = omega arith

counted_behind : (now next : Shape) → IsCounted (leaves_behind now (leaves now) (min (leaves next) 65535)) (followed now next)
counted_behind Nothing next = same_counted (leaves next)
counted_behind (One set) next = sum_counted 1 (leaves next)
counted_behind (At place) next = sum_counted 1 (leaves next)
counted_behind (Then p q) next = sum_counted (leaves p + leaves q) (leaves next)
counted_behind (Either p q) next = sum_counted (leaves p + leaves q) (leaves next)
counted_behind (Again p) next = sum_counted (leaves p) (leaves next)
counted_behind (Times least more p) next = sum_counted (leaves (Times least more p)) (leaves next)

counted_joined : (others : Option Shape) (now : Shape) → leaves_before others + leaves now ≡ leaves (joined others now)
counted_joined None now = omega arith
counted_joined (Some others) now = refl

-- with one more part behind
pub counted_parts : (now next parts : Shape) (count own all : ℕ) → count ≡ leaves now → own ≡ min (leaves next) 65535
    → all ≡ leaves_behind now count own → parts ≡ followed now next → IsCounted all parts
counted_parts now next parts count own all counted more sum made =
    ap (λ (k : ℕ). min k 65535)
    (sum ∙ ap (λ (k : ℕ). leaves_behind now k own) counted ∙ ap (λ (k : ℕ). leaves_behind now (leaves now) k) more)
    ∙ counted_behind now next ∙ ap (λ (s : Shape). min (leaves s) 65535) (sym made)

-- with one more alternative
pub counted_all : (others : Option Shape) (now all : Shape) (before count : ℕ) → before ≡ leaves_before others → count ≡ leaves now
    → all ≡ joined others now → IsCounted (before + count) all
counted_all others now all before count counted more made =
    ap (λ (k : ℕ). min k 65535)
    (ap (λ (k : ℕ). k + count) counted ∙ ap (λ (k : ℕ). leaves_before others + k) more ∙ counted_joined others now)
    ∙ ap (λ (s : Shape). min (leaves s) 65535) (sym made)
