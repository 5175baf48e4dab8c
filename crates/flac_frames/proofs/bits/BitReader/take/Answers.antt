-- The first bits of the word.
use Rattle.std.proofs.Common.{arith}
use Rattle.flac_frames.specs.Bits.{bits_of}
use Rattle.flac_frames.specs.Left.{left}
use Rattle.flac_frames.proofs.ReadLists.{word_taken, word_below}
use Rattle.flac_frames.proofs.bits.BitReader.take.Goals as goal

pub returns-clause-reads : goal.returns-clause-reads
unfolding left
returns-clause-reads c =
    word_taken c.args.n c.args.self.now.count c.args.self.now.word (bits_of c.args.self.now.rest.now) c.requires c.args.self.now.few c.args.self.now.small

pub returns-clause-small : goal.returns-clause-small
returns-clause-small c =
    word_below c.args.n _ c.args.self.now.count c.args.self.now.word (omega arith) c.args.self.now.small
