use Rattle.std.proofs.Common.{arith}
use Rattle.machine_core.specs.Entries.{place_info}
use Rattle.machine_core.proofs.Queue.Lines.{number_next, numbers_done, numbers_off}
use Rattle.machine_core.proofs.answer_entries.write_places.Goals as goal

pub loop-position-preserved : goal.loop-position-preserved
loop-position-preserved c =
    number_next (place_info c.args.entries.now) c.args.positions.now c.loop-position.position-index _ _ c.loop-position.invariant _ _
    (omega arith) c.in_ok-write_place_at.ensures

pub returns-in_err-write_place_at : goal.returns-in_err-write_place_at
returns-in_err-write_place_at c =
    numbers_off (place_info c.args.entries.now) c.args.positions.now c.loop-position.position-index _ _ c.loop-position.invariant _ _ _
    (omega arith) c.in_err-write_place_at.ensures c.from_residual.ensures.0

pub returns : goal.returns
returns c =
    numbers_done (place_info c.args.entries.now) c.args.positions.now c.loop-position.position-index _ _ c.loop-position.invariant _
    (omega arith)
