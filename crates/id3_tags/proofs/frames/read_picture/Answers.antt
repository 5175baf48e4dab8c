use Rattle.std.proofs.Common.{◌∙◌, ◌++◌, sym, ap}
use Rattle.id3_tags.proofs.FrameList.{picture_read}
use Rattle.id3_tags.proofs.frames.read_picture.Goals as goal

pub returns-clause-read : goal.returns-clause-read
returns-clause-read g c = λ told. c.in_ok-add.ensures.added
    ∙ ap (λ l. c.args.pictures.now ++ l) (picture_read (g.S.Source.bytes c.args.source.now) c.deref.result.now
    c.in_ok-picture.picture c.args.head.now (sym c.if-not-gives_picture.ensures)
    (c.deref.ensures.value ∙ c.in_ok-front.ensures.read told) c.min.ensures c.in_ok-picture.ensures)
