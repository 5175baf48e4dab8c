-- The bits that a reader has left.
use Rattle.std.specs.Prelude.{List, Bool, ◌++◌}
use Rattle.flac_frames.specs.Bits.{bits_of, bits_of_number}
use Rattle.flac_frames.specs.declared.bits.BitReader.{BitReader}

-- those in its word, and those of the bytes behind it
unfoldable pub left : BitReader → List Bool
left reader = bits_of_number reader.count reader.word ++ bits_of reader.rest.now
