use Rattle.std.proofs.Common.{◌≡◌, ◌++◌, slice_range}
use Rattle.play_queue.specs.Latest.{later_than}
use Rattle.play_queue.proofs.latest.push_later.Given as goal

abbrev pub invariant-loop-at : goal.invariant-loop-at
invariant-loop-at l = l.positions.items ≡ l.initial.positions.items ++ later_than l.version l.start (slice_range l.entries l.start l.at)
