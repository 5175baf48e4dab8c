use Rattle.std.proofs.Common.{◌≡◌, ◌-◌}
use Rattle.state_codec.specs.Checksum.{with_bits}
use Rattle.state_codec.proofs.checksum.with_eight.Given as goal

abbrev pub invariant-loop-bit : goal.invariant-loop-bit
invariant-loop-bit l = with_bits (8 - l._bit) l.sum ≡ with_bits 8 l.number
