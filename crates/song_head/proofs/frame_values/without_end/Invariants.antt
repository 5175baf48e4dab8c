use Rattle.std.proofs.Common.{◌≡◌, length}
use Rattle.song_head.specs.FrameValues.{without_end}
use Rattle.song_head.proofs.frame_values.without_end.Given as goal

abbrev pub invariant-loop-rest : goal.invariant-loop-rest
invariant-loop-rest l = without_end l.rest ≡ without_end l.text

abbrev pub decreases-loop-rest : goal.decreases-loop-rest
decreases-loop-rest l = length l.rest
