use Rattle.std.proofs.Common.{◌≡◌, drop}
use Rattle.song_files.specs.Tag.{same_letters, tag_named}
use Rattle.song_files.proofs.TagRowList.{tag_found}
use Rattle.song_files.proofs.tag.Tag.named.Given as goal

-- the rows that are left decide
abbrev pub invariant-loop-row : goal.invariant-loop-row
invariant-loop-row l = tag_found (λ row. same_letters row.name l.text) (drop l.row-index l.row-items) ≡ tag_named l.text
