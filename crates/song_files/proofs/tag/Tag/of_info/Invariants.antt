use Rattle.std.proofs.Common.{◌≡◌, drop}
use Rattle.std.specs.List.{list_any}
use Rattle.std.specs.Str.{bytes_eq}
use Rattle.song_files.specs.Tag.{info_tag}
use Rattle.song_files.proofs.TagRowList.{tag_found}
use Rattle.song_files.proofs.tag.Tag.of_info.Given as goal

-- the rows that are left decide
abbrev pub invariant-loop-row : goal.invariant-loop-row
invariant-loop-row l = tag_found (λ row. list_any (λ own. bytes_eq own l.id) row.ids) (drop l.row-index l.row-items) ≡ info_tag l.id
