use Rattle.std.proofs.Common.{◌≡◌, ◌<◌, [], ◌∷◌, length, ap, ◌∙◌, arith}
use Rattle.std.proofs.lemmas.Result.{IfOk-weaker}
use Rattle.song_db.specs.Query.{with_texts}
use Rattle.song_db.specs.Tagged.{count_tagged}
use Rattle.machine_core.proofs.Finding.AllValues.{fewer_values, having_values}
use Rattle.machine_core.proofs.commands.finding.values.wide_values.Goals as goal

pub returns-then-count-len : goal.returns-then-count-len
returns-then-count-len c =
    let all : count_tagged c.told_instead-told.result c.args.songs.now ≡ length c.args.songs.now
    = omega (arith, c.count_tagged-count.ensures.count, c.len.ensures.count) in
    IfOk-weaker c.own_values.result _ _ (λ values h. h ∙ having_values c.told_instead-told.result c.args.songs.now all
    ∙ c.told_instead-told.ensures ∙ c.told_instead-next.ensures) c.own_values.ensures

pub returns-then-has_fallback : goal.returns-then-has_fallback
returns-then-has_fallback c = IfOk-weaker c.told_by_all.result _ _ (λ values h. h
    ∙ c.told_instead-told.ensures ∙ c.told_instead-next.ensures) (rw c.rows.ensures.rows at c.told_by_all.ensures)

pub returns : goal.returns
returns c =
    let fewer : count_tagged c.told_instead-told.result c.args.songs.now < length c.args.songs.now
    = omega (arith, c.count_tagged-count.ensures.count, c.count_tagged-count.ensures.few, c.len.ensures.count) in
    c.in_ok-insert.ensures.ok
    ∙ ap (λ known. with_texts known ([] ∷ [])) c.in_ok-values.ensures
    ∙ fewer_values c.told_instead-told.result c.args.songs.now (c.has_fallback.ensures.own c.if-has_fallback.false) fewer
    ∙ c.told_instead-told.ensures ∙ c.told_instead-next.ensures
