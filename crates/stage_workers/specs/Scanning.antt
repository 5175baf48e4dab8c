-- What a scan finds.
use Rattle.std.specs.Prelude.{List, [], Option, Some, None}
use Rattle.song_db.specs.declared.change.RowChange.{RowChange}

-- the changes of a batch; none at the end
abbrev pub changes_of : Option (List RowChange) → List RowChange
changes_of None = []
changes_of (Some changes) = changes
