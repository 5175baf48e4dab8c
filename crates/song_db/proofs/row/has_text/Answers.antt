use Rattle.std.proofs.Common.{◌≤◌, length, sym, ◌∙◌, arith}
use Rattle.song_db.proofs.TextSteps.{text_found, text_missing, text_passed}
use Rattle.song_db.proofs.row.has_text.Goals as goal

pub returns-then-is_text : goal.returns-then-is_text
returns-then-is_text c = text_found c.args.tags.now c.loop-at.at (record { tag = c.at-own.result.0; text = c.at-own.result.1.now })
    c.args.tag c.args.value.now c.at-own.ensures c.loop-at.invariant (sym c.is_text.ensures ∙ c.if-is_text.true)

pub loop-at-preserved : goal.loop-at-preserved
loop-at-preserved c = text_passed c.args.tags.now c.loop-at.at (record { tag = c.at-own.result.0; text = c.at-own.result.1.now })
    c.args.tag c.args.value.now c.at-own.ensures c.loop-at.invariant (sym c.is_text.ensures ∙ c.if-is_text.false)

pub returns : goal.returns
returns c =
    let past : length c.args.tags.now ≤ c.loop-at.at = omega arith in
    text_missing c.args.tags.now c.loop-at.at c.args.tag c.args.value.now past c.loop-at.invariant
