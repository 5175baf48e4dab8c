use Rattle.std.proofs.Common.{◌≡◌, ◌*◌, ◌++◌, drop, take, map}
use Rattle.as_wave.specs.FlacSamples.{from_bits}
use Rattle.as_wave.specs.Samples.{bytes_of}
use Rattle.as_wave.proofs.flac_samples.convert_samples.Given as goal

-- The front of the buffer has the samples so far.
abbrev pub invariant-loop-k : goal.invariant-loop-k
invariant-loop-k l = l.buffer ≡ bytes_of (map (from_bits l.bits) (take l.k l.samples)) ++ drop (2 * l.k) l.initial.buffer
