use Rattle.std.proofs.Common.{◌≡◌, drop}
use Rattle.std.specs.List.{find}
use Rattle.as_wave.specs.FlacTag.{is_total}
use Rattle.as_wave.proofs.flac_texts.total_in.Given as goal

-- the comments that are left decide
abbrev pub invariant-loop-comment : goal.invariant-loop-comment
invariant-loop-comment l = find is_total (drop l.comment-index l.comments) ≡ find is_total l.comments
