use Rattle.std.proofs.Common.{arith}
use Rattle.std.proofs.lemmas.Result.{err_from_is_err_and}
use Rattle.state_codec.specs.ReadingRows.{next_text_at}
use Rattle.state_codec.proofs.LoopLaws.{items_go_on, one_counted, items_fail, items_done}
use Rattle.state_codec.proofs.fields.Reader.text_list.Goals as goal

pub loop-i-preserved : goal.loop-i-preserved
loop-i-preserved c =
    let g = c.in_ok-next_text.ensures in
    rw g.2 (
      items_go_on next_text_at c.args.count c.loop-i._i _ _ g.0 _ _ (omega arith) g.1 c.loop-i.invariant.0,
      one_counted _ g.0 _ c.loop-i.invariant.1,
    )

pub returns-in_err-next_text : goal.returns-in_err-next_text
returns-in_err-next_text c =
    let p = err_from_is_err_and c.from_residual.result c.from_residual.ensures.1 in
    rw (p.1, p.2) (items_fail next_text_at c.args.count c.loop-i._i _ _ _ _ (omega arith) c.in_err-next_text.ensures c.loop-i.invariant.0)

pub returns : goal.returns
returns c = items_done next_text_at c.args.count c.loop-i._i _ _ _ (omega arith) c.loop-i.invariant.0
