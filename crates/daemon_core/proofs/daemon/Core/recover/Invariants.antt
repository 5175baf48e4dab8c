use Rattle.std.proofs.Common.{length}
use Rattle.daemon_core.proofs.RecoverLaws.{SoFarApplied}
use Rattle.daemon_core.proofs.daemon.Core.recover.Given as goal

abbrev pub invariant-loop-op : goal.invariant-loop-op
invariant-loop-op l = SoFarApplied l.ops l.rest l.place l.fn.saved l.saved

abbrev pub decreases-loop-op : goal.decreases-loop-op
decreases-loop-op l = length l.rest
