-- A row by its number.
use Rattle.std.specs.Prelude.{ℕ, Bool, false, List, Option, Some, None, slice_get}
use Rattle.song_db.specs.Row.{Row}

abbrev pub is_there_and : (Row → Bool) → Option Row → Bool
is_there_and passes None = false
is_there_and passes (Some row) = passes row

-- there is a row with this number, and it passes
abbrev pub passes_at : (Row → Bool) → List Row → ℕ → Bool
passes_at passes rows number = is_there_and passes (slice_get rows number)
