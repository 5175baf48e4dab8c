use Rattle.std.proofs.Common.{arith}
use Rattle.song_output.proofs.Pieces.{range_short}
use Rattle.song_output.proofs.reading.piece_range.Goals as goal

pub returns-clause-short : goal.returns-clause-short
returns-clause-short c =
    range_short c.args.info.now c.args.from c.args.end c.frame_range.result (omega arith) c.frame_range.ensures.place c.frame_range.ensures.short
