use Rattle.std.proofs.Common.{◌≡◌, take}
use Rattle.play_queue.specs.Latest.{AreLatest}
use Rattle.play_queue.specs.Restamp.{raised_in}
use Rattle.play_queue.proofs.priority.raise_in.Given as goal

abbrev pub invariant-loop-range : goal.invariant-loop-range
invariant-loop-range l = (l.entries ≡ raised_in (take l.range-index l.ranges) l.priority l.stamp l.initial.entries)
    × (AreLatest l.initial.latest l.initial.entries → AreLatest l.latest l.entries)
