use Rattle.std.proofs.Common.{◌≡◌, length}
use Rattle.song_files.specs.declared.tag.Tag.TheVariants.{Genre}
use Rattle.song_head.specs.Added.{with_texts}
use Rattle.song_head.proofs.Bracketed.{genres_told}
use Rattle.song_head.proofs.frame_values.add_bracketed.Given as goal

-- what is left is still to be added
abbrev pub invariant-genres : goal.invariant-genres
invariant-genres l = with_texts l.tags Genre (genres_told l.rest) ≡ with_texts l.initial.tags Genre (genres_told l.text)

abbrev pub decreases-genres : goal.decreases-genres
decreases-genres l = length l.rest
