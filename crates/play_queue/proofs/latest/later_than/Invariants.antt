use Rattle.std.proofs.Common.{◌≡◌, ◌*◌, take}
use Rattle.play_queue.specs.Limits.{SPAN}
use Rattle.play_queue.specs.Latest.{later_than}
use Rattle.play_queue.proofs.latest.later_than.Given as goal

abbrev pub invariant-loop-block : goal.invariant-loop-block
invariant-loop-block l = l.positions.items ≡ later_than l.version 0 (take (l.block * SPAN) l.entries)
