use Rattle.std.proofs.Common.{map, drop}
use Rattle.command_text.proofs.LineLoops.{Leaves}
use Rattle.machine_core.specs.EntryRows.{row_of_entry}
use Rattle.machine_core.specs.Finding.{entry_row_lines}
use Rattle.machine_core.proofs.commands.finding.entries.write_entry_rows.Given as goal

abbrev pub invariant-loop-entry : goal.invariant-loop-entry
invariant-loop-entry l =
    Leaves (entry_row_lines l.mask) (map row_of_entry l.found) (map row_of_entry (drop l.entry-index l.found)) l.fn.out l.out
