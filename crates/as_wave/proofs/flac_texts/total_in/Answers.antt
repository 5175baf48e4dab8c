use Rattle.std.proofs.Common.{sym, ap, ◌∙◌, Some}
use Rattle.std.specs.Prelude.{option_map}
use Rattle.flac.specs.Comments.{CommentText}
use Rattle.as_wave.specs.FlacTag.{is_total}
use Rattle.as_wave.proofs.Firsts.{found_at, passed_at, none_left}
use Rattle.as_wave.proofs.flac_texts.total_in.Goals as goal

pub returns-then-is_total : goal.returns-then-is_total
returns-then-is_total c =
    ap Some c.value.ensures
    ∙ ap (option_map (λ (t : CommentText). t.value)) (found_at is_total c.args.comments.now c.loop-comment.comment-index c.comment-item.result _
    c.loop-comment-test.true c.comment-item.is (sym c.is_total.ensures ∙ c.if-is_total.true) c.loop-comment.invariant)

pub loop-comment-preserved : goal.loop-comment-preserved
loop-comment-preserved c =
    passed_at is_total c.args.comments.now c.loop-comment.comment-index c.comment-item.result _ c.loop-comment-test.true c.comment-item.is
    (sym c.is_total.ensures ∙ c.if-is_total.false) c.loop-comment.invariant

pub returns : goal.returns
returns c = ap (option_map (λ (t : CommentText). t.value)) (none_left is_total c.args.comments.now c.loop-comment.comment-index _
    c.loop-comment-test.false c.loop-comment.invariant)
