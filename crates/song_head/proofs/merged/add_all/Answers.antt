use Rattle.std.proofs.Common.{ap, ◌∙◌}
use Rattle.song_head.specs.Added.{with_texts}
use Rattle.song_head.specs.FrameValues.{told_by}
use Rattle.song_head.proofs.Texts.{frame_added}
use Rattle.song_head.proofs.merged.add_all.Goals as goal

pub loop-frame-preserved : goal.loop-frame-preserved
loop-frame-preserved c =
    frame_added c.loop-frame.tags c.add_frame.new.tags c.args.tag c.args.manner c.args.frames.now c.loop-frame.frame-index
    c.frame-item.result _ c.loop-frame-test.true
    (c.in_ok-add_frame.ensures ∙ ap (λ frame. with_texts c.loop-frame.tags c.args.tag (told_by c.args.manner c.args.tag frame)) c.frame-item.is)
    c.loop-frame.invariant
