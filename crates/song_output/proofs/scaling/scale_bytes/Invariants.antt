use Rattle.std.proofs.Common.{◌≡◌}
use Rattle.wave_pcm.specs.Pcm.{at_volume}
use Rattle.song_output.proofs.Samples.{changed}
use Rattle.song_output.proofs.scaling.scale_bytes.Given as goal

-- The samples so far are at the volume, and the others are as they were.
abbrev pub invariant-loop-k : goal.invariant-loop-k
invariant-loop-k l = l.bytes ≡ changed (at_volume l.volume) l.k l.initial.bytes
