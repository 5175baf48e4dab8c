use Rattle.std.proofs.Common.{length}
use Rattle.daemon_core.proofs.TellLaws.{SoTold}
use Rattle.daemon_core.proofs.tell.write_each.Given as goal

abbrev pub invariant-loop-subsystem : goal.invariant-loop-subsystem
invariant-loop-subsystem l = SoTold l.changed l.subsystems l.rest l.fn.text l.text

abbrev pub decreases-loop-subsystem : goal.decreases-loop-subsystem
decreases-loop-subsystem l = length l.rest
