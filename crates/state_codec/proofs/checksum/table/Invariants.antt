use Rattle.std.proofs.Common.{◌≡◌, ℕ, ◌<◌, length, get_or}
use Rattle.state_codec.specs.Checksum.{with_bits}
use Rattle.state_codec.proofs.checksum.table.Given as goal

abbrev pub invariant-loop-number : goal.invariant-loop-number
invariant-loop-number l = (length l.table ≡ 256) × ((k : ℕ) → k < l.number → get_or l.table k 0 ≡ with_bits 8 k)
