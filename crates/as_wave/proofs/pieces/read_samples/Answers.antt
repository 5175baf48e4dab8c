use Rattle.std.proofs.Common.{◌+◌, ap, ◌∙◌, slice_range}
use Rattle.as_wave.proofs.PieceReads.{converted_is}
use Rattle.as_wave.proofs.pieces.read_samples.Goals as goal

pub returns-clause-read : goal.returns-clause-read
returns-clause-read g c = λ told. c.copy_from.ensures.copied
    ∙ ap (λ xs. slice_range xs c.args.skip (c.args.skip + c.copy_from.result)) (c.convert.ensures
    ∙ converted_is (g.S.Source.bytes c.args.source.now) c.read_exact.new.buffer c.args.width c.args.first c.args.count _ c.requires.raw
    (c.in_ok-read_exact.ensures.read told))
