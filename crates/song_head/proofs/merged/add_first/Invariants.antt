use Rattle.std.proofs.Common.{◌≡◌, drop, take}
use Rattle.song_head.specs.Added.{with_texts}
use Rattle.song_head.specs.FrameValues.{texts_told}
use Rattle.song_head.specs.declared.manner.Manner.TheVariants.{First}
use Rattle.song_head.proofs.merged.add_first.Given as goal

-- the first of what the frames that are left tell is still to be added
abbrev pub invariant-loop-frame : goal.invariant-loop-frame
invariant-loop-frame l =
    with_texts l.tags l.tag (take 1 (texts_told First (drop l.frame-index l.frames) l.tag))
    ≡ with_texts l.initial.tags l.tag (take 1 (texts_told First l.frames l.tag))
