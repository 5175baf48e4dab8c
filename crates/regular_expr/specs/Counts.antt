-- How often a part of a pattern is repeated.
use Rattle.std.specs.Prelude.{ℕ, ◌+◌, ◌-◌, ◌*◌, ◌==◌, min, nat_lt, List, [], ◌∷◌, Option, Some, None, if◌then◌else◌}
use Rattle.std.specs.Char.{is_ascii_digit}
use Rattle.regular_expr.specs.Shape.{Shape}
use Rattle.regular_expr.specs.Shape.Shape.{Nothing, Again, Times}

infixl 10 ◌>>=◌
abbrev pub ◌>>=◌ : {A B : Type 0} → Option A → (A → Option B) → Option B
(Some x) >>= f = f x
None >>= f = None

-- the number of the digits in front, behind those that give this one, counted up to 1000; and what stands behind it
unfoldable pub number_from : ℕ → List ℕ → ℕ × List ℕ
number_from number [] = (number, [])
number_from number (b ∷ text) = if is_ascii_digit b then number_from (min (number * 10 + (b - 48)) 1000) text else (number, b ∷ text)

-- a number in front
abbrev pub number_at : List ℕ → Option (ℕ × List ℕ)
number_at [] = None
number_at (b ∷ text) = if is_ascii_digit b then Some (number_from 0 (b ∷ text)) else None

abbrev pub byte_at : ℕ → List ℕ → Option (List ℕ)
byte_at byte [] = None
byte_at byte (b ∷ text) = if b == byte then Some text else None

-- so often at least, and at most if that is said
abbrev pub Count : Type 0
Count = ℕ × Option ℕ

-- what stands behind a comma: `}`, or `m}`
abbrev pub most_at : ℕ → List ℕ → Option (Count × List ℕ)
most_at least [] = None
most_at least (b ∷ text) =
    if b == 125 then Some ((least, None), text)
    else (number_at (b ∷ text) >>= λ most. byte_at 125 most.1 >>= λ rest. Some ((least, Some most.0), rest))

-- what stands behind the first number: `}`, `,}` or `,m}`
abbrev pub rest_at : ℕ → List ℕ → Option (Count × List ℕ)
rest_at least [] = None
rest_at least (b ∷ text) =
    if b == 125 then Some ((least, Some least), text) else (if b == 44 then most_at least text else None)

-- `{n}`, `{n,}` or `{n,m}`, and what stands behind it
unfoldable pub count_at : List ℕ → Option (Count × List ℕ)
count_at text = do
  inside ← byte_at 123 text
  least ← number_at inside
  rest_at least.0 least.1

-- how often a part may be repeated by a number
abbrev pub most_often : ℕ
most_often = 255

-- a part so often, and nothing where it is never; not where a number is too large, or the numbers stand in the wrong order
unfoldable pub repeated : Count → Shape → Option Shape
repeated (least, None) shape =
    if nat_lt most_often least then None
    else Some (if least == 0 then Times 0 1 (Again shape) else Times least 0 (Again shape))
repeated (least, Some most) shape =
    if nat_lt most_often most then None
    else (if nat_lt most least then None else (if most == 0 then Some Nothing else Some (Times least (most - least) shape)))
