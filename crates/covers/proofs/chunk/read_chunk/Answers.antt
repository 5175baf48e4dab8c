use Rattle.std.proofs.Common.{◌∙◌}
use Rattle.std.proofs.lemmas.Result.{IfOk-weaker}
use Rattle.covers.proofs.PictureRanges.{chunk_is}
use Rattle.covers.proofs.chunk.read_chunk.Goals as goal

pub returns-clause-chunk : goal.returns-clause-chunk
returns-clause-chunk g c = λ told within.
    IfOk-weaker c.read_bytes.result _ _ (λ chunk h. h ∙ chunk_is (g.S.Source.bytes c.args.source.now) c.args.place.first c.args.place.len
    c.args.offset c.args.limit c.min-begin.result c.min-count.result c.min-begin.ensures c.min-count.ensures) (c.read_bytes.ensures.read told)
