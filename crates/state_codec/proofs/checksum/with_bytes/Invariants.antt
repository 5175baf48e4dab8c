use Rattle.std.proofs.Common.{◌≡◌, take, fold}
use Rattle.state_codec.specs.Checksum.{with_byte}
use Rattle.state_codec.proofs.checksum.with_bytes.Given as goal

abbrev pub invariant-loop-byte : goal.invariant-loop-byte
invariant-loop-byte l = l.sum ≡ fold with_byte l.start (take l.byte-index l.bytes)
