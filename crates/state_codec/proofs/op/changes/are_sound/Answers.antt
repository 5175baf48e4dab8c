use Rattle.std.proofs.Common.{arith}
use Rattle.state_codec.specs.Changes.{IsChange}
use Rattle.state_codec.proofs.ListLaws.{all_more}
use Rattle.state_codec.proofs.op.changes.are_sound.Goals as goal

pub loop-change-preserved : goal.loop-change-preserved
loop-change-preserved c =
    all_more IsChange c.args.changes.now c.loop-change.change-index c.change-item.result (omega arith) c.change-item.is c.is_sound.ensures
    c.loop-change.invariant
