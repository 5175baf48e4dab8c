-- What a pattern says, as a tree.
use Rattle.std.specs.Prelude.{ℕ, ◌+◌, ◌*◌, length}
use Rattle.regular_expr.specs.declared.byte_set.ByteSet.{ByteSet}
use Rattle.regular_expr.specs.declared.part.Part.{Part}
use Rattle.regular_expr.specs.declared.part.Part.TheVariants as kept
use Rattle.regular_expr.specs.declared.place.Place.{Place}
use Rattle.regular_expr.specs.Sets.{Bytes}

-- nothing, a byte of a set, a place, one and behind it another, one of two, one once or more often, and one so often with so many more
-- that may be missing
pub data Shape : Type 0 where
  Nothing : Shape
  One : Bytes → Shape
  At : Place → Shape
  Then : Shape → Shape → Shape
  Either : Shape → Shape → Shape
  Again : Shape → Shape
  Times : ℕ → ℕ → Shape → Shape

abbrev pub bytes_of : ByteSet → Bytes
bytes_of set = record { negated = set.negated; ranges = set.ranges.items }

-- the tree without where its parts lie in memory
abbrev pub shape_of : Part → Shape
shape_of kept.Nothing = Nothing
shape_of (kept.One set) = One (bytes_of set)
shape_of (kept.At place) = At place
shape_of (kept.Then' p left q right) = Then (shape_of left) (shape_of right)
shape_of (kept.Either' p left q right) = Either (shape_of left) (shape_of right)
shape_of (kept.Again' p part) = Again (shape_of part)
shape_of (kept.Times' least more p part) = Times least more (shape_of part)

-- how many leaves it has, where what is repeated counts as often
abbrev pub leaves : Shape → ℕ
leaves Nothing = 1
leaves (One set) = 1
leaves (At place) = 1
leaves (Then p q) = leaves p + leaves q
leaves (Either p q) = leaves p + leaves q
leaves (Again p) = leaves p
leaves (Times least more p) = (least + more) * leaves p

-- How many leaves are looked at for a byte of a text, each once and once more for each `+` or `*` around it; of a set each range is.
abbrev pub visits : ℕ → Shape → ℕ
visits each Nothing = each
visits each (One set) = each * length set.ranges
visits each (At place) = each
visits each (Then p q) = visits each p + visits each q
visits each (Either p q) = visits each p + visits each q
visits each (Again p) = visits (each + 1) p
visits each (Times least more p) = (least + more) * visits each p
