use Rattle.std.proofs.Common.{sym, ◌∙◌}
use Rattle.song_head.specs.FrameTags.{Frame, frames, has_id}
use Rattle.song_head.specs.Rows.{frame_of}
use Rattle.song_head.proofs.RowList.{rows_begin, row_found, row_passed, rows_end}
use Rattle.song_head.proofs.frame_tags.tag_by_id.Goals as goal

pub loop-row-init : goal.loop-row-init
loop-row-init c = rows_begin frame_of (has_id c.args.id) (λ (f : Frame). f.tag) c.frame_rows-row-items.result.now frames
    c.frame_rows-row-items.ensures

pub returns-then-has_id : goal.returns-then-has_id
returns-then-has_id c =
    row_found frame_of (has_id c.args.id) (λ (f : Frame). f.tag) c.frame_rows-row-items.result.now c.loop-row.row-index _ _
    c.loop-row-test.true (sym c.has_id.ensures ∙ c.if-has_id.true) c.loop-row.invariant

pub loop-row-preserved : goal.loop-row-preserved
loop-row-preserved c =
    row_passed frame_of (has_id c.args.id) (λ (f : Frame). f.tag) c.frame_rows-row-items.result.now c.loop-row.row-index _ _
    c.loop-row-test.true (sym c.has_id.ensures ∙ c.if-has_id.false) c.loop-row.invariant

pub returns : goal.returns
returns c = rows_end frame_of (has_id c.args.id) (λ (f : Frame). f.tag) c.frame_rows-row-items.result.now c.loop-row.row-index _
    c.loop-row-test.false c.loop-row.invariant
