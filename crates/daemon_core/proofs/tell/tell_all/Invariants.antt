use Rattle.std.proofs.Common.{length}
use Rattle.daemon_core.proofs.TellLaws.{AllSoFar}
use Rattle.daemon_core.proofs.tell.tell_all.Given as goal

abbrev pub invariant-loop-report : goal.invariant-loop-report
invariant-loop-report l = AllSoFar l.reports l.rest l.fn.rooms l.rooms l.fn.outputs l.outputs

abbrev pub decreases-loop-report : goal.decreases-loop-report
decreases-loop-report l = length l.rest
