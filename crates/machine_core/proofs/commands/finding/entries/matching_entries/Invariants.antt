use Rattle.std.proofs.Common.{◌≡◌, ◌++◌, map, drop}
use Rattle.machine_core.specs.EntryRows.{row_of_entry}
use Rattle.machine_core.specs.Finding.{entry_rows}
use Rattle.machine_core.proofs.commands.finding.entries.matching_entries.Given as goal

-- those so far, and those of the entries that are left
abbrev pub invariant-loop-position : goal.invariant-loop-position
invariant-loop-position l =
    map row_of_entry l.found.items ++ entry_rows l.case l.filter l.songs l.position (drop l.position l.entries)
    ≡ entry_rows l.case l.filter l.songs 0 l.entries
