use Rattle.std.proofs.Common.{◌≡◌, ◌++◌, sym, ap, ◌∙◌}
use Rattle.std.specs.Prelude.{option_to_list}
use Rattle.as_wave.specs.FlacTag.{text_for, total_in}
use Rattle.as_wave.proofs.Firsts.{given_more, given_all}
use Rattle.as_wave.proofs.flac_texts.comment_texts.Goals as goal

pub loop-comment-preserved : goal.loop-comment-preserved
loop-comment-preserved c =
    given_more (text_for (total_in c.args.comments.now)) c.args.comments.now c.loop-comment.comment-index c.comment-item.result _ _ _
    c.loop-comment-test.true c.comment-item.is
    (rw c.total_in-total.ensures at c.in_ok-add_text.ensures) c.loop-comment.invariant

pub returns : goal.returns
returns c = given_all (text_for (total_in c.args.comments.now)) c.args.comments.now c.loop-comment.comment-index _ _ c.loop-comment-test.false
    c.loop-comment.invariant
