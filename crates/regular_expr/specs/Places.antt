-- Places between the bytes of a text.
use Rattle.std.specs.Prelude.{ℕ, Bool, false, not, ◌==◌, ◌||◌, Option, Some, None, is_none, if◌then◌else◌}
use Rattle.std.specs.Char.{is_ascii_alphanumeric}
use Rattle.regular_expr.specs.declared.place.Here.{Here}
use Rattle.regular_expr.specs.declared.place.Place.{Place}
use Rattle.regular_expr.specs.declared.place.Place.TheVariants.{Start, End, Edge, Inside}

-- a letter or a digit of ASCII, or `_`
abbrev pub is_word : ℕ → Bool
is_word b = is_ascii_alphanumeric b || b == 95

abbrev pub is_word_there : Option ℕ → Bool
is_word_there None = false
is_word_there (Some b) = is_word b

-- a word begins or ends here
abbrev pub is_edge : Bool → Bool → Bool
is_edge before next = if before then not next else next

-- the beginning of the text, its end, the edge of a word, or none
abbrev pub is_place : Place → Here → Bool
is_place Start here = is_none here.before
is_place End here = is_none here.next
is_place Edge here = is_edge (is_word_there here.before) (is_word_there here.next)
is_place Inside here = not (is_edge (is_word_there here.before) (is_word_there here.next))
