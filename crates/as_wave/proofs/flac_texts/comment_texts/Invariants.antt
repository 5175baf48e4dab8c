use Rattle.std.proofs.Common.{◌≡◌, ◌++◌, drop}
use Rattle.std.specs.List.{filter_map}
use Rattle.as_wave.specs.FlacTag.{text_for, comment_texts, total_in}
use Rattle.as_wave.proofs.flac_texts.comment_texts.Given as goal

-- the frames so far, with those of the comments that are left, are all
abbrev pub invariant-loop-comment : goal.invariant-loop-comment
invariant-loop-comment l = l.frames.items ++ filter_map (text_for (total_in l.comments)) (drop l.comment-index l.comments) ≡ comment_texts l.comments
