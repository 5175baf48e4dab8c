use Rattle.std.proofs.Common.{arith}
use Rattle.machine_core.specs.Entries.{position_info}
use Rattle.machine_core.specs.Spans.{positions_in}
use Rattle.machine_core.proofs.Queue.Lines.{position_next, positions_done, positions_off}
use Rattle.machine_core.proofs.answer_entries.write_span.Goals as goal

pub loop-position-preserved : goal.loop-position-preserved
loop-position-preserved c =
    position_next (position_info c.args.mask c.args.saved.now) (positions_in c.args.span) c.loop-position.position c.args.span.end _ _
    c.loop-position.invariant _ _ (omega arith) c.in_ok-write_position.ensures

pub returns-in_err-write_position : goal.returns-in_err-write_position
returns-in_err-write_position c =
    positions_off (position_info c.args.mask c.args.saved.now) (positions_in c.args.span) c.loop-position.position c.args.span.end _ _
    c.loop-position.invariant _ _ _ (omega arith) c.in_err-write_position.ensures c.from_residual.ensures.0

pub returns : goal.returns
returns c =
    positions_done (position_info c.args.mask c.args.saved.now) (positions_in c.args.span) c.loop-position.position c.args.span.end _ _
    c.loop-position.invariant _ (omega arith)
