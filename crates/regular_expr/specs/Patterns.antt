-- What contracts see of a pattern: its text.
use Rattle.std.specs.Prelude.{ℕ, Bool, false, ◌||◌, List, Option, Some, None, is_some}
use Rattle.regular_expr.specs.Marks.{stands_in}
use Rattle.regular_expr.specs.Reading.{Pattern, pattern_in}
use Rattle.regular_expr.specs.Shape.{visits}

-- the text is a pattern
unfoldable pub is_pattern : List ℕ → Bool
is_pattern source = is_some (pattern_in source)

abbrev pub found_by : Bool → Option Pattern → List ℕ → Bool
found_by fold None text = false
found_by fold (Some pattern) text = stands_in (fold || pattern.caseless) pattern.shape text

-- The pattern of this text stands somewhere in another; so that ASCII letters of any case are the same, or not.
unfoldable pub is_found : Bool → List ℕ → List ℕ → Bool
is_found fold source text = found_by fold (pattern_in source) text

abbrev pub visits_of : Option Pattern → ℕ
visits_of None = 0
visits_of (Some pattern) = visits 1 pattern.shape

-- how many leaves are looked at for a byte of a text
unfoldable pub visits_by : List ℕ → ℕ
visits_by source = visits_of (pattern_in source)
