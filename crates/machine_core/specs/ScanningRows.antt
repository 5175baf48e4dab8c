-- What one change of a batch does at its turn, told before any of it is made.
use Rattle.std.specs.Prelude.{◌≡◌, ℕ, ◌+◌, ◌-◌, false, nat_lt, List, length, Option, Some, None, if◌then◌else◌}
use Rattle.std.specs.List.{list_any}
use Rattle.song_db.specs.Change.{after_batch}
use Rattle.song_db.specs.Effect.{effects_of, is_left_out}
use Rattle.song_db.specs.Limits.{MAX_ROWS}
use Rattle.song_db.specs.Row.{Row}
use Rattle.song_db.specs.Same.{same_row}
use Rattle.song_db.specs.declared.change.RowChange.{RowChange}
use Rattle.song_db.specs.declared.change.RowChange.TheVariants.{Put, Drop}

-- how many rows there are after a change of a URI that had this row; nothing where it changes no row
abbrev pub count_told : ℕ → RowChange → Option Row → Option ℕ
count_told count (Put row) None = if nat_lt count MAX_ROWS then Some (count + 1) else None
count_told count (Put row) (Some old) = if same_row old row then None else Some count
count_told count (Drop uri) None = None
count_told count (Drop uri) (Some old) = Some (count - 1)

-- none of these changes is left out, and so many rows there are after them
pub record AreTold (rows : List Row) (told : List RowChange) (number : ℕ) : Type 0 where
  pub fit : list_any is_left_out (effects_of rows told) ≡ false
  pub count : number ≡ length (after_batch rows told)
