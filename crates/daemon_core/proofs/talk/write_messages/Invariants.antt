use Rattle.std.proofs.Common.{length}
use Rattle.command_text.proofs.LineLoops.{Leaves}
use Rattle.daemon_core.specs.Talk.{lines_of}
use Rattle.daemon_core.proofs.talk.write_messages.Given as goal

abbrev pub invariant-loop-message : goal.invariant-loop-message
invariant-loop-message l = Leaves lines_of l.messages l.rest l.fn.out l.out

abbrev pub decreases-loop-message : goal.decreases-loop-message
decreases-loop-message l = length l.rest
