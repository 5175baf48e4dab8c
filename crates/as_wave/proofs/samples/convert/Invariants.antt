use Rattle.std.proofs.Common.{◌≡◌, ◌*◌, ◌++◌, drop, map}
use Rattle.as_wave.specs.Samples.{at_16, samples_of, bytes_of}
use Rattle.as_wave.proofs.samples.convert.Given as goal

-- The front of the buffer has the samples so far.
abbrev pub invariant-loop-k : goal.invariant-loop-k
invariant-loop-k l = l.buffer ≡ bytes_of (map (at_16 l.width) (samples_of l.width l.k l.raw)) ++ drop (2 * l.k) l.initial.buffer
