use Rattle.std.proofs.Common.{◌≡◌, drop}
use Rattle.song_head.specs.FrameTags.{Described, is_described, comment_tag}
use Rattle.song_head.specs.Rows.{described_of}
use Rattle.song_head.proofs.RowList.{found_in}
use Rattle.song_head.proofs.frame_tags.comment_tag.Given as goal

-- the rows that are left decide
abbrev pub invariant-loop-row : goal.invariant-loop-row
invariant-loop-row l =
    found_in described_of (is_described l.id l.description) (λ (f : Described). f.tag) (drop l.row-index l.row-items)
    ≡ comment_tag l.id l.description
