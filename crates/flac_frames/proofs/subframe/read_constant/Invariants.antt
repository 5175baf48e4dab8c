use Rattle.std.proofs.Common.{◌≡◌, take, replicate}
use Rattle.flac_frames.proofs.subframe.read_constant.Given as goal

-- the sample stands at each place so far
abbrev pub invariant-loop-value : goal.invariant-loop-value
invariant-loop-value l = take l.value-index l.out ≡ replicate l.value-index l.sample
