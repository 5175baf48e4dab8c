use Rattle.std.proofs.Common.{sym, ◌∙◌}
use Rattle.as_wave.proofs.FrameRows.{row_found, row_passed, row_none}
use Rattle.as_wave.proofs.flac_names.frame_named.Goals as goal

pub returns-then-is_named : goal.returns-then-is_named
returns-then-is_named c =
    row_found c.rows-row-items.result.now c.loop-row.row-index _ c.args.name.now c.rows-row-items.ensures c.loop-row-test.true
    (sym c.is_named.ensures ∙ c.if-is_named.true) c.loop-row.invariant

pub loop-row-preserved : goal.loop-row-preserved
loop-row-preserved c =
    row_passed c.rows-row-items.result.now c.loop-row.row-index _ c.args.name.now c.loop-row-test.true
    (sym c.is_named.ensures ∙ c.if-is_named.false) c.loop-row.invariant

pub returns : goal.returns
returns c = row_none c.rows-row-items.result.now c.loop-row.row-index c.args.name.now c.rows-row-items.ensures c.loop-row-test.false
    c.loop-row.invariant
