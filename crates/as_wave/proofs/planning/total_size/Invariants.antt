use Rattle.std.proofs.Common.{◌≡◌, ◌<◌, ◌^◌, take}
use Rattle.as_wave.specs.ChunkHead.{total_size}
use Rattle.as_wave.proofs.planning.total_size.Given as goal

abbrev pub invariant-loop-head : goal.invariant-loop-head
invariant-loop-head l = (l.total < 2 ^ 32) × (l.total ≡ total_size (take l.head-index l.heads))
