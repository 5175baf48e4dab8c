use Rattle.std.proofs.Common.{sym, ◌∙◌}
use Rattle.song_files.specs.Tag.{Row, same_letters, tag_named}
use Rattle.song_files.proofs.TagRowList.{rows_begin, row_found, row_passed}
use Rattle.song_files.proofs.tag.Tag.named.Goals as goal

pub loop-row-init : goal.loop-row-init
unfolding tag_named
loop-row-init c = rows_begin (λ (row : Row). same_letters row.name c.args.text.now) c.rows-row-items.result.now c.rows-row-items.ensures

pub returns-then-is_named : goal.returns-then-is_named
returns-then-is_named c =
    row_found (λ (row : Row). same_letters row.name c.args.text.now) c.rows-row-items.result.now c.loop-row.row-index _ _
    c.loop-row-test.true (sym c.is_named.ensures ∙ c.if-is_named.true)
    c.loop-row.invariant

pub loop-row-preserved : goal.loop-row-preserved
loop-row-preserved c =
    row_passed (λ (row : Row). same_letters row.name c.args.text.now) c.rows-row-items.result.now c.loop-row.row-index _ _
    c.loop-row-test.true (sym c.is_named.ensures ∙ c.if-is_named.false)
    c.loop-row.invariant
