use Rattle.std.proofs.Common.{◌≡◌, drop}
use Rattle.song_head.specs.Added.{with_texts}
use Rattle.song_head.specs.FrameValues.{texts_told}
use Rattle.song_head.proofs.merged.add_all.Given as goal

-- the frames that are left tell what is still to be added
abbrev pub invariant-loop-frame : goal.invariant-loop-frame
invariant-loop-frame l =
    with_texts l.tags l.tag (texts_told l.manner (drop l.frame-index l.frames) l.tag)
    ≡ with_texts l.initial.tags l.tag (texts_told l.manner l.frames l.tag)
