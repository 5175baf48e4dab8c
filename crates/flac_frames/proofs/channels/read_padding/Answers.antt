-- The odd bits are taken.
use Rattle.std.proofs.Common.{arith}
use Rattle.flac_frames.specs.Left.{left}
use Rattle.flac_frames.proofs.Lengths.{unsigned_rest}
use Rattle.flac_frames.proofs.channels.read_padding.Goals as goal

pub returns-then-zeros-eq0-clause-whole : goal.returns-then-zeros-eq0-clause-whole
returns-then-zeros-eq0-clause-whole c =
    omega (arith, unsigned_rest c.odd_bits-odd.result (left c.args.reader.now) c.in_ok-zeros.zeros (left c.unsigned.new.self) c.in_ok-zeros.ensures.reads, c.odd_bits-odd.ensures.value)
