use Rattle.std.proofs.Common.{◌≡◌, drop}
use Rattle.song_head.specs.FrameTags.{Frame, has_id, tag_by_id}
use Rattle.song_head.specs.Rows.{frame_of}
use Rattle.song_head.proofs.RowList.{found_in}
use Rattle.song_head.proofs.frame_tags.tag_by_id.Given as goal

-- the rows that are left decide
abbrev pub invariant-loop-row : goal.invariant-loop-row
invariant-loop-row l = found_in frame_of (has_id l.id) (λ (f : Frame). f.tag) (drop l.row-index l.row-items) ≡ tag_by_id l.id
