use Rattle.std.proofs.Common.{arith}
use Rattle.machine_core.specs.Entries.{position_info}
use Rattle.machine_core.proofs.Queue.Lines.{number_next, numbers_done, numbers_off}
use Rattle.machine_core.proofs.answer_entries.write_positions.Goals as goal

pub loop-position-preserved : goal.loop-position-preserved
loop-position-preserved c =
    number_next (position_info c.args.mask c.args.saved.now) c.args.positions.now c.loop-position.position-index _ _
    c.loop-position.invariant _ _
    (omega arith) c.in_ok-write_position.ensures

pub returns-in_err-write_position : goal.returns-in_err-write_position
returns-in_err-write_position c =
    numbers_off (position_info c.args.mask c.args.saved.now) c.args.positions.now c.loop-position.position-index _ _
    c.loop-position.invariant _ _ _
    (omega arith) c.in_err-write_position.ensures c.from_residual.ensures.0

pub returns : goal.returns
returns c =
    numbers_done (position_info c.args.mask c.args.saved.now) c.args.positions.now c.loop-position.position-index _ _
    c.loop-position.invariant _
    (omega arith)
