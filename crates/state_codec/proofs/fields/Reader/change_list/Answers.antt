use Rattle.std.proofs.Common.{arith}
use Rattle.std.proofs.lemmas.Result.{err_from_is_err_and}
use Rattle.state_codec.specs.ReadingRows.{change_at}
use Rattle.state_codec.proofs.LoopLaws.{items_go_on, items_fail, items_done}
use Rattle.state_codec.proofs.fields.Reader.change_list.Goals as goal

pub loop-i-preserved : goal.loop-i-preserved
loop-i-preserved c =
    rw c.in_ok-push.ensures.items (items_go_on (λ known. change_at c.args.profile) c.args.count c.loop-i._i _ _ c.in_ok-change.change _ _ (omega arith)
    c.in_ok-change.ensures c.loop-i.invariant)

pub returns-in_err-change : goal.returns-in_err-change
returns-in_err-change c =
    let p = err_from_is_err_and c.from_residual-in_err-change.result c.from_residual-in_err-change.ensures.1 in
    rw (p.1, p.2) (items_fail (λ known. change_at c.args.profile) c.args.count c.loop-i._i _ _ _ _ (omega arith) c.in_err-change.ensures
    c.loop-i.invariant)

pub returns : goal.returns
returns c = items_done (λ known. change_at c.args.profile) c.args.count c.loop-i._i _ _ _ (omega arith) c.loop-i.invariant
