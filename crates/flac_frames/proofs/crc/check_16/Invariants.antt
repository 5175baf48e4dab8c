use Rattle.std.proofs.Common.{◌≡◌, drop}
use Rattle.flac_frames.specs.Bits.{bits_of}
use Rattle.flac_frames.specs.Crc.{remainder_after, crc_16}
use Rattle.flac_frames.proofs.crc.check_16.Given as goal

-- what is left to divide
abbrev pub invariant-loop-byte : goal.invariant-loop-byte
invariant-loop-byte l = remainder_after 16 0x8005 l.remainder (bits_of (drop l.byte-index l.bytes)) ≡ crc_16 (bits_of l.bytes)
