-- What one change of a batch does, told before any of it is made.
use Rattle.std.specs.Prelude.{ℕ, ◌+◌, ◌-◌, Bool, true, false, not, nat_lt, List, [], ◌∷◌, ◌++◌}
use Rattle.std.specs.Prelude.{Option, Some, None, if◌then◌else◌}
use Rattle.std.specs.List.{list_any}
use Rattle.std.specs.Option.{option_to_list}
use Rattle.std.specs.Str.{bytes_eq}
use Rattle.play_queue.specs.Entries.{Uris}
use Rattle.song_db.specs.Change.{uri_of}
use Rattle.song_db.specs.Limits.{MAX_ROWS}
use Rattle.song_db.specs.Row.{Row, row_at}
use Rattle.song_db.specs.Same.{same_row}
use Rattle.song_db.specs.declared.change.RowChange.{RowChange}
use Rattle.song_db.specs.declared.change.RowChange.TheVariants.{Put, Drop}

-- the row that a change leaves under its URI
abbrev pub row_left : RowChange → Option Row
row_left (Put row) = Some row
row_left (Drop uri) = None

-- how many rows there are after a change, where its URI has a row or none; nothing where a new row finds no place
abbrev pub count_after : ℕ → Bool → RowChange → Option ℕ
count_after count true (Put row) = Some count
count_after count false (Put row) = if nat_lt count MAX_ROWS then Some (count + 1) else None
count_after count true (Drop uri) = Some (count - 1)
count_after count false (Drop uri) = Some count

-- some change is of the URI
abbrev pub is_named : List RowChange → List ℕ → Bool
is_named changes uri = list_any (λ change. bytes_eq uri (uri_of change)) changes

-- there is a row, and it says something else
abbrev pub says_other : Row → Option Row → Bool
says_other row None = false
says_other row (Some old) = not (same_row old row)

-- the URI of a change whose row is another one than before the batch, where no later change is of that URI
abbrev pub changed_first : List Row → RowChange → List RowChange → Option (List ℕ)
changed_first before (Put row) more =
    if is_named more row.uri then None
    else if says_other row (row_at before row.uri) then Some row.uri
    else None
changed_first before (Drop uri) more = None

-- the URIs that changes leave with another row than before them
abbrev pub changed_by : List Row → List RowChange → Uris
changed_by before [] = []
changed_by before (change ∷ more) = option_to_list (changed_first before change more) ++ changed_by before more
