use Rattle.std.proofs.Common.{length, arith}
use Rattle.as_wave.proofs.PieceReads.{body_read}
use Rattle.as_wave.proofs.pieces.read_chunk.Goals as goal

pub returns-then-place-head-clause-read : goal.returns-then-place-head-clause-read
returns-then-place-head-clause-read g c = λ told stands.
    body_read c.read_range.result (g.S.Source.bytes c.args.source.now) c.read_range.new.buffer c.args.head.now c.args.at (length
    c.args.buffer.now) stands (omega arith) c.read_range.ensures.count (c.read_range.ensures.read told)
