use Rattle.std.proofs.Common.{drop, sym, ◌+◌, arith}
use Rattle.std.proofs.Math.ListN.{drop_of_length-le}
use Rattle.command_text.specs.AnswerSongs.{file_line}
use Rattle.command_text.proofs.LineLoops.{leaves_fewer, leaves_none, leaves_off}
use Rattle.song_db.specs.Row.{Row}
use Rattle.machine_core.proofs.Finding.Writers.{next_row}
use Rattle.machine_core.proofs.commands.finding.writing.write_files.Goals as goal

pub loop-row-preserved : goal.loop-row-preserved
loop-row-preserved c =
    let rows = c.args.rows.now in
    let at = c.loop-row in
    leaves_fewer (λ (row : Row). file_line row.uri) rows c.row-item.result (drop (at.row-index + 1) rows) _ _ _ _
    (rw (next_row rows at.row-index c.row-item.result (omega arith) c.row-item.is) at at.invariant)
    (rw c.uri.ensures.text at c.in_ok-write_file.ensures)

pub returns-in_err-write_file : goal.returns-in_err-write_file
returns-in_err-write_file c =
    let rows = c.args.rows.now in
    let at = c.loop-row in
    leaves_off (λ (row : Row). file_line row.uri) rows c.row-item.result (drop (at.row-index + 1) rows) _ _ _ _ _
    (rw (next_row rows at.row-index c.row-item.result (omega arith) c.row-item.is) at at.invariant)
    (rw c.uri.ensures.text at c.in_err-write_file.ensures) c.from_residual.ensures.0

pub returns : goal.returns
returns c =
    let rows = c.args.rows.now in
    leaves_none (λ (row : Row). file_line row.uri) rows _ _ _
    (rw (drop_of_length-le rows {i = c.loop-row.row-index} (omega arith)) at c.loop-row.invariant)
