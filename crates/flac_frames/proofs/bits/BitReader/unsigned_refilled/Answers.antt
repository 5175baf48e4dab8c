-- All bits that are left are in the word.
use Rattle.std.proofs.Common.{arith}
use Rattle.flac_frames.specs.Left.{left}
use Rattle.flac_frames.proofs.ReadLists.{unsigned_short}
use Rattle.flac_frames.proofs.Lefts.{few_left}
use Rattle.flac_frames.proofs.bits.BitReader.unsigned_refilled.Goals as goal

pub returns-else-n-self-clause-reads : goal.returns-else-n-self-clause-reads
returns-else-n-self-clause-reads c =
    let none = c.refill.ensures.filled (omega arith) in
    rw c.refill.ensures.same at (unsigned_short c.args.n (left c.refill.new.self) (few_left c.refill.new.self c.args.n none c.if-n-self.false))
