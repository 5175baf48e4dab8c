use Rattle.std.proofs.Common.{arith}
use Rattle.id3_tags.proofs.Pushes.{push_end}
use Rattle.id3_tags.proofs.Resyncs.{resync_end}
use Rattle.id3_tags.proofs.unsynchronisation.resynchronised.Goals as goal

pub returns : goal.returns
returns c = push_end _ _ _ (resync_end c.args.bytes.now c.bytes.at (omega arith)) c.bytes.invariant.1
