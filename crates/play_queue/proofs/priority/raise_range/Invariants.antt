use Rattle.std.proofs.Common.{◌≡◌, ◌++◌, map, take, drop, slice_range}
use Rattle.play_queue.specs.Restamp.{raised}
use Rattle.play_queue.proofs.priority.raise_range.Given as goal

abbrev pub invariant-loop-at : goal.invariant-loop-at
invariant-loop-at l = l.entries ≡ take l.start l.initial.entries
    ++ (map (raised l.priority l.stamp) (slice_range l.initial.entries l.start l.at) ++ drop l.at l.initial.entries)
