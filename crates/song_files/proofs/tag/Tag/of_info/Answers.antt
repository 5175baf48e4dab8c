use Rattle.std.proofs.Common.{sym, ◌∙◌}
use Rattle.std.specs.List.{list_any}
use Rattle.std.specs.Str.{bytes_eq}
use Rattle.song_files.specs.Tag.{Row, info_tag}
use Rattle.song_files.proofs.TagRowList.{rows_begin, row_found, row_passed}
use Rattle.song_files.proofs.tag.Tag.of_info.Goals as goal

pub loop-row-init : goal.loop-row-init
unfolding info_tag
loop-row-init c = rows_begin (λ (row : Row). list_any (λ own. bytes_eq own c.args.id) row.ids) c.rows-row-items.result.now
    c.rows-row-items.ensures

pub returns-then-has_id : goal.returns-then-has_id
returns-then-has_id c =
    row_found (λ (row : Row). list_any (λ own. bytes_eq own c.args.id) row.ids) c.rows-row-items.result.now c.loop-row.row-index _ _
    c.loop-row-test.true
    (sym c.has_id.ensures ∙ c.if-has_id.true) c.loop-row.invariant

pub loop-row-preserved : goal.loop-row-preserved
loop-row-preserved c =
    row_passed (λ (row : Row). list_any (λ own. bytes_eq own c.args.id) row.ids) c.rows-row-items.result.now c.loop-row.row-index _ _
    c.loop-row-test.true
    (sym c.has_id.ensures ∙ c.if-has_id.false) c.loop-row.invariant
