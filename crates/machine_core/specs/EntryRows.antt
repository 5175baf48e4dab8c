-- An entry that is found, as private functions have it.
use Rattle.std.specs.Prelude.{◌≡◌, ℕ, ◌<◌, Bool, true, false, List, [], length, slice_index_or}
use Rattle.filter_expr.specs.Tree.{Tree}
use Rattle.filter_expr.specs.declared.case.Case.{Case}
use Rattle.play_queue.specs.Shown.{shown}
use Rattle.play_queue.specs.declared.entry.Entry.{Entry}
use Rattle.song_db.specs.Row.{Row, row_at}
use Rattle.machine_core.specs.Finding.{EntryRow, entry_row}
use Rattle.machine_core.specs.declared.commands.finding.entries.FoundEntry.{FoundEntry}

abbrev pub row_of_entry : FoundEntry → EntryRow
row_of_entry found = record { position = found.position; entry = shown found.entry; row = found.row.now }

-- the entries that are marked match nothing
abbrev pub AreRuledOut : Case → Tree → List Row → List Entry → List Bool → Type 0
AreRuledOut case tree songs entries marks = (at : ℕ) (entry : Entry) → at < length marks → slice_index_or marks at false ≡ true
    → at < length entries → slice_index_or entries at entry ≡ entry → entry_row case tree at entry (row_at songs entry.uri) ≡ []
