use Rattle.std.proofs.Common.{◌∙◌, ap, sym, Err}
use Rattle.std.proofs.lemmas.Result.{IfOk-weaker}
use Rattle.covers.specs.SongPictures.{told_by}
use Rattle.covers.proofs.Fails.{fails_by}
use Rattle.covers.proofs.song.read_picture.Goals as goal

pub returns-in-Err-clause-picture : goal.returns-in-Err-clause-picture
returns-in-Err-clause-picture g c = λ told.
    IfOk-weaker c.refusal.result _ _
    (λ picture h. h.0 ∙ sym (ap (told_by (g.S.Source.bytes c.args.source.now)) (c.in-Err.ensures.refused told h.1)))
    c.refusal.ensures.verdict

pub returns-in-Err-clause-fault : goal.returns-in-Err-clause-fault
returns-in-Err-clause-fault g c = λ told.
    fails_by c.refusal.result _ _ (λ same. c.in-Err.ensures.fault told (ap Err same)) c.refusal.ensures.fails
