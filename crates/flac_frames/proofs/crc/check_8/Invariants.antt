use Rattle.std.proofs.Common.{◌≡◌, drop}
use Rattle.flac_frames.specs.Bits.{bits_of}
use Rattle.flac_frames.specs.Crc.{remainder_after, crc_8}
use Rattle.flac_frames.proofs.crc.check_8.Given as goal

-- what is left to divide
abbrev pub invariant-loop-byte : goal.invariant-loop-byte
invariant-loop-byte l = remainder_after 8 7 l.remainder (bits_of (drop l.byte-index l.bytes)) ≡ crc_8 (bits_of l.bytes)
