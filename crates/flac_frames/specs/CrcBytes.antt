-- The checks byte by byte.
use Rattle.std.specs.Prelude.{ℕ}
use Rattle.flac_frames.specs.Bits.{bits_of_number}
use Rattle.flac_frames.specs.Crc.{remainder_after}

-- the remainder behind one byte more
abbrev pub after_byte : ℕ → ℕ → ℕ → ℕ → ℕ
after_byte width polynomial remainder byte = remainder_after width polynomial remainder (bits_of_number 8 byte)
