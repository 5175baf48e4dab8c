-- The pattern that a text spells.
use Rattle.std.specs.Prelude.{ℕ, zero, suc, ◌==◌, ◌||◌, Bool, true, false, List, [], ◌∷◌, length, nat_le, Option, Some, None}
use Rattle.std.specs.Prelude.{if◌then◌else◌}
use Rattle.regular_expr.specs.declared.byte_set.ByteRange.{ByteRange}
use Rattle.regular_expr.specs.declared.place.Place.{Place}
use Rattle.regular_expr.specs.declared.place.Place.TheVariants.{Start, End, Edge, Inside}
use Rattle.regular_expr.specs.Classes.{alone, range, class_of, escaped_at, set_at}
use Rattle.regular_expr.specs.Counts.{◌>>=◌, Count, byte_at, count_at, repeated}
use Rattle.regular_expr.specs.Shape.{Shape, leaves}
use Rattle.regular_expr.specs.Shape.Shape.{Nothing, One, At, Then, Either, Times}

abbrev pub of_ranges : List ByteRange → Shape
of_ranges ranges = One (record { negated = false; ranges = ranges })

-- the place of a letter behind a backslash: `b`, `B`, `A`, `z` and `Z`
abbrev pub place_of : ℕ → Option Place
place_of b =
    if b == 98 then Some Edge
    else (if b == 66 then Some Inside else (if b == 65 then Some Start else (if b == 122 || b == 90 then Some End else None)))

-- a class, a place or a byte
abbrev pub placed : Option Place → List ℕ → List ℕ → Option (Shape × List ℕ)
placed (Some place) text escaped = Some (At place, text)
placed None text escaped = escaped_at escaped >>= λ x. Some (of_ranges (alone x.0), x.1)

abbrev pub classed : Option (List ByteRange) → ℕ → List ℕ → Option (Shape × List ℕ)
classed (Some ranges) b text = Some (of_ranges ranges, text)
classed None b text = placed (place_of b) text (b ∷ text)

-- what stands behind a backslash
unfoldable pub escape_at : List ℕ → Option (Shape × List ℕ)
escape_at [] = None
escape_at (b ∷ text) = classed (class_of b) b text

abbrev pub Reader : Type 0
Reader = List ℕ → Option (Shape × List ℕ)

-- `?:` in front goes, and nothing else may stand behind a question mark
abbrev pub behind_colon : List ℕ → Option (List ℕ)
behind_colon [] = Some []
behind_colon (b ∷ text) = if b == 63 then byte_at 58 text else Some (b ∷ text)

-- a place in parentheses, which may be repeated as another group
abbrev pub grouped : Shape → Shape
grouped (At place) = Times 1 0 (At place)
grouped shape = shape

-- a group behind its opening parenthesis, whose inside `read` reads
unfoldable pub group_at : Reader → Reader
group_at read text = do
  inside ← behind_colon text
  x ← read inside
  rest ← byte_at 41 x.1
  Some (grouped x.0, rest)

-- what is repeated, or a parenthesis or a bar that nothing stands in front of
abbrev pub is_behind_parts : ℕ → Bool
is_behind_parts b = b == 42 || (b == 43 || (b == 63 || (b == 41 || b == 124)))

-- a byte that stands for itself; a count doesn't, which nothing stands in front of
abbrev pub plain : Option (Count × List ℕ) → ℕ → List ℕ → Option (Shape × List ℕ)
plain (Some count) b text = None
plain None b text = Some (of_ranges (alone b), text)

-- a part of one byte: any, a place, or a byte
abbrev pub simple_at : ℕ → List ℕ → Option (Shape × List ℕ)
simple_at b text =
    if b == 46 then Some (of_ranges (range 0 255 ∷ []), text)
    else (if b == 94 then Some (At Start, text)
    else (if b == 36 then Some (At End, text)
    else (if is_behind_parts b then None else plain (count_at (b ∷ text)) b text)))

-- a part that isn't repeated yet
unfoldable pub atom_at : Reader → Reader
atom_at read [] = None
atom_at read (b ∷ text) =
    if b == 40 then group_at read text
    else (if b == 91 then (set_at text >>= λ x. Some (One x.0, x.1))
    else (if b == 92 then escape_at text else simple_at b text))

-- a place that stands in no parentheses isn't repeated
abbrev pub is_place_alone : Shape → Bool
is_place_alone (At place) = true
is_place_alone shape = false

-- `*`, `+`, `?` or a count
abbrev pub often_at : List ℕ → Option (Count × List ℕ)
often_at [] = None
often_at (b ∷ text) =
    if b == 42 then Some ((0, None), text)
    else (if b == 43 then Some ((1, None), text)
    else (if b == 63 then Some ((0, Some 1), text) else count_at (b ∷ text)))

-- whether few or many are tried first changes nothing
abbrev pub behind_lazy : List ℕ → List ℕ
behind_lazy [] = []
behind_lazy (b ∷ text) = if b == 63 then text else b ∷ text

abbrev pub repeated_by : Shape → List ℕ → Option (Count × List ℕ) → Option (Shape × List ℕ)
repeated_by shape text None = Some (shape, text)
repeated_by shape text (Some often) =
    if is_place_alone shape then None else (repeated often.0 shape >>= λ many. Some (many, behind_lazy often.1))

-- a part, repeated as is said behind it
unfoldable pub quantified : Shape → List ℕ → Option (Shape × List ℕ)
quantified shape text = repeated_by shape text (often_at text)

unfoldable pub piece_at : Reader → Reader
piece_at read text = atom_at read text >>= λ x. quantified x.0 x.1

-- a part behind others, of which there may be none
abbrev pub followed : Shape → Shape → Shape
followed Nothing next = next
followed now next = Then now next

abbrev pub joined : Option Shape → Shape → Shape
joined None shape = shape
joined (Some others) shape = Either others shape

-- how many leaves a pattern may have
abbrev pub most_leaves : ℕ
most_leaves = 512

-- it isn't too large
abbrev pub fitting : Shape → Option Shape
fitting shape = if nat_le (leaves shape) most_leaves then Some shape else None

-- a part behind these
unfoldable pub part_behind : Reader → Shape → List ℕ → Option (Shape × List ℕ)
part_behind read now text = do
  x ← piece_at read text
  parts ← fitting (followed now x.0)
  Some (parts, x.1)

-- these parts are an alternative behind others
abbrev pub alternative : Option Shape → Shape → Option Shape
alternative others now = fitting (joined others now)

-- a closing parenthesis, or the end
abbrev pub is_body_end : List ℕ → Bool
is_body_end [] = true
is_body_end (b ∷ text) = b == 41

-- Parts one behind the other, in alternatives with bars between them, up to a closing parenthesis or the end: behind these alternatives and
-- these parts of the last, at most so many. It stops where they are too large.
unfoldable pub body_from : Reader → ℕ → Option Shape → Shape → List ℕ → Option (Shape × List ℕ)
body_from read zero others now text = Some (joined others now, text)
body_from read (suc most) others now [] = Some (joined others now, [])
body_from read (suc most) others now (b ∷ text) =
    if is_body_end (b ∷ text) then Some (joined others now, b ∷ text)
    else (if b == 124 then (alternative others now >>= λ all. body_from read most (Some all) Nothing text)
    else (part_behind read now (b ∷ text) >>= λ x. body_from read most others x.0 x.1))

-- with so many of them at once, one within the other
unfoldable pub body_at : ℕ → Reader
body_at zero text = None
body_at (suc room) text = body_from (body_at room) (length text) None Nothing text

-- 16 parentheses may be open at once: so many bodies, one within the other
abbrev pub most_bodies : ℕ
most_bodies = 17

-- what a pattern says: whether ASCII letters of any case are the same in it, and its shape
pub record Pattern : Type 0 where
  pub caseless : Bool
  pub shape : Shape

abbrev pub is_nil : List ℕ → Bool
is_nil [] = true
is_nil (b ∷ text) = false

-- nothing stands behind it, and it isn't too large
abbrev pub finished : Shape × List ℕ → Option Shape
finished x = if is_nil x.1 then fitting x.0 else None

unfoldable pub whole : List ℕ → Option Shape
whole text = body_at most_bodies text >>= finished

-- what stands behind `(?i)`, if that stands in front
unfoldable pub behind_flag : List ℕ → Option (List ℕ)
behind_flag text = byte_at 40 text >>= λ a. byte_at 63 a >>= λ b. byte_at 105 b >>= λ c. byte_at 41 c

abbrev pub said : Bool → Shape → Pattern
said caseless shape = record { caseless = caseless; shape = shape }

abbrev pub read_behind : List ℕ → Option (List ℕ) → Option Pattern
read_behind text None = whole text >>= λ shape. Some (said false shape)
read_behind text (Some rest) = whole rest >>= λ shape. Some (said true shape)

-- the pattern that the whole text spells
unfoldable pub pattern_in : List ℕ → Option Pattern
pattern_in text = read_behind text (behind_flag text)
