-- No bits are in the word.
use Rattle.std.proofs.Common.{refl}
use Rattle.flac_frames.specs.Bits.{bits_of_number}
use Rattle.flac_frames.specs.Left.{left}
use Rattle.flac_frames.proofs.bits.BitReader.new.Goals as goal

pub returns : goal.returns
unfolding left bits_of_number
returns c = refl
