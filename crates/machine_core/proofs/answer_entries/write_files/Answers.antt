use Rattle.std.proofs.Common.{arith}
use Rattle.machine_core.specs.Entries.{file_info}
use Rattle.machine_core.specs.Spans.{positions_in}
use Rattle.machine_core.proofs.Queue.Lines.{position_next, positions_done, positions_off}
use Rattle.machine_core.proofs.answer_entries.write_files.Goals as goal

pub loop-position-preserved : goal.loop-position-preserved
loop-position-preserved c =
    position_next (file_info c.args.entries.now) (positions_in c.args.span) c.loop-position.position c.args.span.end _ _
    c.loop-position.invariant _ _ (omega arith) c.in_ok-write_file_at.ensures

pub returns-in_err-write_file_at : goal.returns-in_err-write_file_at
returns-in_err-write_file_at c =
    positions_off (file_info c.args.entries.now) (positions_in c.args.span) c.loop-position.position c.args.span.end _ _
    c.loop-position.invariant _ _ _ (omega arith) c.in_err-write_file_at.ensures c.from_residual.ensures.0

pub returns : goal.returns
returns c =
    positions_done (file_info c.args.entries.now) (positions_in c.args.span) c.loop-position.position c.args.span.end _ _
    c.loop-position.invariant _ (omega arith)
