use Rattle.std.proofs.Common.{◌≡◌, ◌+◌, length, take}
use Rattle.std.specs.List.{flat_map}
use Rattle.state_codec.specs.Sealed.{checksum_len}
use Rattle.state_codec.specs.SpellingOps.{op_bytes}
use Rattle.state_codec.proofs.writing.fits.Given as goal

abbrev pub invariant-loop-op : goal.invariant-loop-op
invariant-loop-op l = l.left + (length (flat_map (op_bytes l.profile) (take l.op-index l.ops)) + checksum_len l.profile) ≡ l.room
