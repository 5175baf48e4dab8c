use Rattle.std.proofs.Common.{◌≡◌, true, leb, arith}
use Rattle.std.proofs.lemmas.Bool.{le-leb}
use Rattle.std.proofs.lemmas.Result.{err_from_is_err_and}
use Rattle.state_codec.specs.Fields.{pair_at}
use Rattle.state_codec.specs.Numbers.{is_range}
use Rattle.state_codec.proofs.ListLaws.{all_pushed}
use Rattle.state_codec.proofs.LoopLaws.{items_go_on, items_fail, items_done}
use Rattle.state_codec.proofs.TextLaws.{both_is_true}
use Rattle.state_codec.proofs.fields.Reader.pairs.Goals as goal

pub loop-i-preserved : goal.loop-i-preserved
loop-i-preserved c =
    let pair = c.in_ok-pair.pair in
    let within : is_range pair ≡ true =
    both_is_true (leb pair.0 4294967295) (leb pair.1 4294967295) (le-leb pair.0 4294967295 (omega arith))
    (le-leb pair.1 4294967295 (omega arith)) in
    rw c.in_ok-push.ensures.items (
      items_go_on (λ known. pair_at) c.args.count c.loop-i._i _ _ pair _ _ (omega arith) c.in_ok-pair.ensures c.loop-i.invariant.0,
      all_pushed is_range c.loop-i.pairs.items pair c.loop-i.invariant.1 within,
    )

pub returns-in_err-pair-clause-pairs : goal.returns-in_err-pair-clause-pairs
returns-in_err-pair-clause-pairs c =
    let p = err_from_is_err_and c.from_residual-in_err-pair.result c.from_residual-in_err-pair.ensures.1 in
    rw (p.1, p.2) (items_fail (λ known. pair_at) c.args.count c.loop-i._i _ _ _ _ (omega arith) c.in_err-pair.ensures c.loop-i.invariant.0)

pub returns-clause-pairs : goal.returns-clause-pairs
returns-clause-pairs c = items_done (λ known. pair_at) c.args.count c.loop-i._i _ _ _ (omega arith) c.loop-i.invariant.0
