use Rattle.std.proofs.Common.{◌≡◌, take}
use Rattle.song_head.proofs.merged.front_of.Given as goal

abbrev pub invariant-loop-at : goal.invariant-loop-at
invariant-loop-at l = l.front ≡ take l.at l.tags
