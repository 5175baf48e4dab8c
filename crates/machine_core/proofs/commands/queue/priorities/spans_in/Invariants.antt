use Rattle.std.proofs.Common.{◌≡◌, drop}
use Rattle.machine_core.specs.Spans.{spans_in}
use Rattle.machine_core.proofs.Queue.Meanings.{behind}
use Rattle.machine_core.proofs.commands.queue.priorities.spans_in.Given as goal

abbrev pub invariant-loop-range : goal.invariant-loop-range
invariant-loop-range l = spans_in l.ranges l.length ≡ behind l.spans.items (spans_in (drop l.range-index l.ranges) l.length)
