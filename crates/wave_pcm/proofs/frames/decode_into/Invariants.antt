use Rattle.std.proofs.Common.{◌≡◌, ◌++◌, take, drop}
use Rattle.wave_pcm.specs.Pcm.{samples_in}
use Rattle.wave_pcm.proofs.frames.decode_into.Given as goal

-- The samples so far are those of the bytes.
abbrev pub invariant-loop-k : goal.invariant-loop-k
invariant-loop-k l = l.samples ≡ take l.k (samples_in l.bytes) ++ drop l.k l.initial.samples
