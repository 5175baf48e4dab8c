use Rattle.std.proofs.Common.{sym, ◌∙◌}
use Rattle.std.proofs.lemmas.Bool.{and_from}
use Rattle.song_files.specs.Tags.{TagText}
use Rattle.filter_expr.specs.Looked.{is_like_of}
use Rattle.filter_expr.specs.declared.case.Case.TheVariants.{Exact}
use Rattle.filter_expr.proofs.LikeTexts.{one_found, one_passed, not_of, not_like}
use Rattle.filter_expr.proofs.row_text.one_is_like.Goals as goal
use Rattle.filter_expr.proofs.row_text.one_is_like.Goals.{else-is_of-via-then-is_of+else-is_like_exact, else-is_of-via-else-is_of}

pub returns-then-is_like_exact : goal.returns-then-is_like_exact
returns-then-is_like_exact c =
    let t : TagText = record { tag = c.at-tag.result.0; text = c.at-tag.result.1.now } in
    one_found (is_like_of Exact c.args.subject c.args.comparison c.args.value.now) c.args.tags.now c.loop-at.at t c.at-tag.ensures
    c.loop-at.invariant
    (and_from _ _ (sym c.is_of.ensures ∙ c.if-is_of.true) (sym c.is_like_exact.ensures ∙ c.if-is_like_exact.true))

pub loop-at-preserved : goal.loop-at-preserved
loop-at-preserved c =
    let t : TagText = record { tag = c.at-tag.result.0; text = c.at-tag.result.1.now } in
    one_passed (is_like_of Exact c.args.subject c.args.comparison c.args.value.now) c.args.tags.now c.loop-at.at t c.at-tag.ensures
    c.loop-at.invariant (elim c.else-is_of.branch [
      | else-is_of-via-then-is_of+else-is_like_exact w ↦ not_like _ _ (sym w.is_like_exact.ensures ∙ w.if-is_like_exact.false)
      | else-is_of-via-else-is_of w ↦ not_of _ _ (sym c.is_of.ensures ∙ w.if-is_of.false)
    ])
