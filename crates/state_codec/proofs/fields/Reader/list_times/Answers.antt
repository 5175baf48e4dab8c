use Rattle.std.proofs.Common.{◌≡◌, true, [], ◌∷◌, ◌++◌, cond, nat_lt, length, ap, ◌∙◌, arith}
use Rattle.std.proofs.lemmas.Bool.{lt-ltb}
use Rattle.std.proofs.lemmas.Result.{err_from_is_err_and}
use Rattle.stored_lists.specs.Limits.{MAX_LISTS}
use Rattle.state_codec.specs.ReadingTimes.{time_at}
use Rattle.state_codec.proofs.LoopLaws.{items_go_on, one_counted, items_fail, items_done}
use Rattle.state_codec.proofs.fields.Reader.list_times.Goals as goal

pub loop-i-preserved : goal.loop-i-preserved
loop-i-preserved c =
    let room : nat_lt (length c.loop-i.times) MAX_LISTS ≡ true = lt-ltb _ _ (omega (arith, c.loop-i.invariant.1)) in
    let next : c.add_last.new.self ≡ c.loop-i.times ++ c.in_ok-time.time ∷ [] =
    c.add_last.ensures.times ∙ ap (λ b. cond b (c.loop-i.times ++ c.in_ok-time.time ∷ []) c.loop-i.times) room in
    rw next (
      items_go_on (λ known. time_at) c.args.count c.loop-i._i _ _ c.in_ok-time.time _ _ (omega arith) c.in_ok-time.ensures c.loop-i.invariant.0,
      one_counted _ c.in_ok-time.time _ c.loop-i.invariant.1,
    )

pub returns-in_err-time : goal.returns-in_err-time
returns-in_err-time c =
    let p = err_from_is_err_and c.from_residual-in_err-time.result c.from_residual-in_err-time.ensures.1 in
    rw (p.1, p.2) (items_fail (λ known. time_at) c.args.count c.loop-i._i _ _ _ _ (omega arith) c.in_err-time.ensures c.loop-i.invariant.0)

pub returns : goal.returns
returns c = items_done (λ known. time_at) c.args.count c.loop-i._i _ _ _ (omega arith) c.loop-i.invariant.0
