-- The bytes are whole.
use Rattle.std.proofs.Common.{arith}
use Rattle.flac_frames.proofs.Lefts.{length-left}
use Rattle.flac_frames.proofs.bits.BitReader.odd_bits.Goals as goal

pub returns-clause-value : goal.returns-clause-value
returns-clause-value c = omega (arith, length-left c.args.self.now)
