use Rattle.std.proofs.Common.{sym, ap, ◌∙◌}
use Rattle.std.proofs.lemmas.Bool.{and_from}
use Rattle.std.specs.List.{list_any}
use Rattle.song_files.specs.Tags.{TagText}
use Rattle.filter_expr.specs.Looked.{is_like_of}
use Rattle.filter_expr.specs.declared.case.Case.TheVariants.{Folded}
use Rattle.filter_expr.proofs.LikeTexts.{one_found, one_passed, not_of, not_like}
use Rattle.filter_expr.proofs.folded_row.FoldedRow.one_is_like.Goals as goal
use Rattle.filter_expr.proofs.folded_row.FoldedRow.one_is_like.Goals.{else-is_of-via-then-is_of+in_ok-is_like+else-branch}
use Rattle.filter_expr.proofs.folded_row.FoldedRow.one_is_like.Goals.{else-is_of-via-else-is_of}

pub returns-then-branch-clause-member : goal.returns-then-branch-clause-member
returns-then-branch-clause-member c =
    let t : TagText = record { tag = c.at-tag.result.0; text = c.at-tag.result.1.now } in
    let like = is_like_of Folded c.args.subject c.args.comparison c.args.value.now in
    one_found like c.tags-tags.result.now c.loop-at.at t c.at-tag.ensures c.loop-at.invariant.1
    (and_from _ _ (sym c.is_of.ensures ∙ c.if-is_of.true) (sym c.in_ok-is_like.ensures.member ∙ c.if-branch.true))
    ∙ ap (list_any like) (c.tags-tags.ensures ∙ ap (λ song. song.tags) c.self.view_is)

pub loop-at-preserved : goal.loop-at-preserved
loop-at-preserved c =
    let t : TagText = record { tag = c.at-tag.result.0; text = c.at-tag.result.1.now } in
    let like = is_like_of Folded c.args.subject c.args.comparison c.args.value.now in
    let passed = one_passed like c.tags-tags.result.now c.loop-at.at t c.at-tag.ensures c.loop-at.invariant.1 in
    elim c.else-is_of.branch [
      | else-is_of-via-then-is_of+in_ok-is_like+else-branch w ↦ (
        w.self-is ∙ w.is_like.ensures.same ∙ c.loop-at.invariant.0,
        passed (not_like _ _ (sym w.in_ok-is_like.ensures.member ∙ w.if-branch.false)),
      )
      | else-is_of-via-else-is_of w ↦ (
        w.self-is ∙ c.loop-at.invariant.0,
        passed (not_of _ _ (sym c.is_of.ensures ∙ w.if-is_of.false)),
      )
    ]
