use Rattle.std.proofs.Common.{map, drop, ◌+◌, arith}
use Rattle.command_text.proofs.LineLoops.{leaves_fewer, leaves_none, leaves_off, next_left, none_left}
use Rattle.machine_core.specs.EntryRows.{row_of_entry}
use Rattle.machine_core.specs.Finding.{entry_row_lines}
use Rattle.machine_core.proofs.commands.finding.entries.write_entry_rows.Goals as goal

pub loop-entry-preserved : goal.loop-entry-preserved
loop-entry-preserved c =
    let rows = c.args.found.now in
    let at = c.loop-entry in
    leaves_fewer (entry_row_lines c.args.mask) (map row_of_entry rows) (row_of_entry c.entry-item.result)
    (map row_of_entry (drop (at.entry-index + 1) rows)) _ _ _ _
    (rw (next_left row_of_entry rows at.entry-index c.entry-item.result (omega arith) c.entry-item.is) at at.invariant)
    c.in_ok-write_entry.ensures

pub returns-in_err-write_entry : goal.returns-in_err-write_entry
returns-in_err-write_entry c =
    let rows = c.args.found.now in
    let at = c.loop-entry in
    leaves_off (entry_row_lines c.args.mask) (map row_of_entry rows) (row_of_entry c.entry-item.result)
    (map row_of_entry (drop (at.entry-index + 1) rows)) _ _ _ _ _
    (rw (next_left row_of_entry rows at.entry-index c.entry-item.result (omega arith) c.entry-item.is) at at.invariant)
    c.in_err-write_entry.ensures c.from_residual.ensures.0

pub returns : goal.returns
returns c =
    let rows = c.args.found.now in
    leaves_none (entry_row_lines c.args.mask) (map row_of_entry rows) _ _ _
    (rw (none_left row_of_entry rows c.loop-entry.entry-index (omega arith)) at c.loop-entry.invariant)
