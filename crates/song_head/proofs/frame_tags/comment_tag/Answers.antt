use Rattle.std.proofs.Common.{sym, ◌∙◌}
use Rattle.song_head.specs.FrameTags.{Described, comments, is_described}
use Rattle.song_head.specs.Rows.{described_of}
use Rattle.song_head.proofs.RowList.{rows_begin, row_found, row_passed, rows_end}
use Rattle.song_head.proofs.frame_tags.comment_tag.Goals as goal

pub loop-row-init : goal.loop-row-init
loop-row-init c = rows_begin described_of (is_described c.args.id c.args.description.now) (λ (f : Described). f.tag)
    c.comment_rows-row-items.result.now comments c.comment_rows-row-items.ensures

pub returns-then-is_described : goal.returns-then-is_described
returns-then-is_described c =
    row_found described_of (is_described c.args.id c.args.description.now) (λ (f : Described). f.tag)
    c.comment_rows-row-items.result.now c.loop-row.row-index _ _ c.loop-row-test.true (sym c.is_described.ensures ∙
    c.if-is_described.true) c.loop-row.invariant

pub loop-row-preserved : goal.loop-row-preserved
loop-row-preserved c =
    row_passed described_of (is_described c.args.id c.args.description.now) (λ (f : Described). f.tag)
    c.comment_rows-row-items.result.now c.loop-row.row-index _ _ c.loop-row-test.true (sym c.is_described.ensures ∙
    c.if-is_described.false) c.loop-row.invariant

pub returns : goal.returns
returns c = rows_end described_of (is_described c.args.id c.args.description.now) (λ (f : Described). f.tag)
    c.comment_rows-row-items.result.now c.loop-row.row-index _ c.loop-row-test.false c.loop-row.invariant
