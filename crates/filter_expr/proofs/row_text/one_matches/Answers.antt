use Rattle.std.proofs.Common.{sym, ap, ◌∙◌}
use Rattle.regular_expr.specs.Patterns.{is_found}
use Rattle.std.proofs.lemmas.Bool.{and_from}
use Rattle.song_files.specs.Tags.{TagText}
use Rattle.filter_expr.specs.Looked.{is_found_of}
use Rattle.filter_expr.proofs.LikeTexts.{one_found, one_passed, not_of, not_like}
use Rattle.filter_expr.proofs.row_text.one_matches.Goals as goal
use Rattle.filter_expr.proofs.row_text.one_matches.Goals.{else-is_of-via-then-is_of+else-is_found, else-is_of-via-else-is_of}

pub returns-then-is_found : goal.returns-then-is_found
returns-then-is_found c =
    let t : TagText = record { tag = c.at-tag.result.0; text = c.at-tag.result.1.now } in
    one_found (is_found_of c.args.fold c.args.subject c.args.pattern.now) c.args.tags.now c.loop-at.at t c.at-tag.ensures
    c.loop-at.invariant
    (and_from _ _ (sym c.is_of.ensures ∙ c.if-is_of.true)
    (ap (is_found c.args.fold c.args.pattern.now) (sym c.as_bytes.ensures.value) ∙ sym c.is_found.ensures ∙ c.if-is_found.true))

pub loop-at-preserved : goal.loop-at-preserved
loop-at-preserved c =
    let t : TagText = record { tag = c.at-tag.result.0; text = c.at-tag.result.1.now } in
    one_passed (is_found_of c.args.fold c.args.subject c.args.pattern.now) c.args.tags.now c.loop-at.at t c.at-tag.ensures
    c.loop-at.invariant (elim c.else-is_of.branch [
      | else-is_of-via-then-is_of+else-is_found w ↦ not_like _ _
          (ap (is_found c.args.fold c.args.pattern.now) (sym w.as_bytes.ensures.value) ∙ sym w.is_found.ensures ∙ w.if-is_found.false)
      | else-is_of-via-else-is_of w ↦ not_of _ _ (sym c.is_of.ensures ∙ w.if-is_of.false)
    ])
