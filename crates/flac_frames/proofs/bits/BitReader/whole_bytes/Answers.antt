-- The bits of the word, and those of the bytes.
use Rattle.std.proofs.Common.{arith}
use Rattle.flac_frames.proofs.Lefts.{length-left}
use Rattle.flac_frames.proofs.bits.BitReader.whole_bytes.Goals as goal

pub returns : goal.returns
returns c = omega (arith, length-left c.args.self.now)
