use Rattle.std.proofs.Common.{length}
use Rattle.daemon_core.specs.Request.{asker_of}
use Rattle.daemon_core.specs.Run.{separator}
use Rattle.daemon_core.proofs.RequestLaws.{SoFar}
use Rattle.daemon_core.proofs.request.run_lines.Given as goal

abbrev pub invariant-loop-line : goal.invariant-loop-line
invariant-loop-line l =
    SoFar (asker_of l.asked) l.asked.place (separator l.asked.separated) l.fn.lines l.rest l.index l.fn.machine l.machine l.fn.talks l.talks l.fn.work l.work l.looks l.fn.view l.view
    l.changed

abbrev pub decreases-loop-line : goal.decreases-loop-line
decreases-loop-line l = length l.rest
