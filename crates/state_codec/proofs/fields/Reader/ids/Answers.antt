use Rattle.std.proofs.Common.{◌≡◌, true, List, ℕ, [], ◌∷◌, ◌++◌, cond, nat_lt, length, ap, ◌∙◌, arith}
use Rattle.std.proofs.lemmas.Bool.{lt-ltb}
use Rattle.std.proofs.lemmas.Result.{err_from_is_err_and}
use Rattle.player_core.specs.Place.{longest_round}
use Rattle.state_codec.specs.Fields.{u32_at}
use Rattle.state_codec.proofs.LoopLaws.{items_go_on, one_counted, items_fail, items_done}
use Rattle.state_codec.proofs.fields.Reader.ids.Goals as goal

pub loop-i-preserved : goal.loop-i-preserved
loop-i-preserved c =
    let room : nat_lt (length c.loop-i.ids) longest_round ≡ true = lt-ltb _ _ (omega (arith, c.loop-i.invariant.1)) in
    let next : c.add_last.new.self ≡ c.loop-i.ids ++ c.in_ok-id.id ∷ [] =
    c.add_last.ensures.ids ∙ ap (λ b. cond b (c.loop-i.ids ++ c.in_ok-id.id ∷ []) c.loop-i.ids) room in
    rw next (
      items_go_on (λ known. u32_at) c.args.count c.loop-i._i _ _ c.in_ok-id.id _ _ (omega arith) c.in_ok-id.ensures c.loop-i.invariant.0,
      one_counted _ c.in_ok-id.id _ c.loop-i.invariant.1,
    )

pub returns-in_err-id : goal.returns-in_err-id
returns-in_err-id c =
    let p = err_from_is_err_and c.from_residual-in_err-id.result c.from_residual-in_err-id.ensures.1 in
    rw (p.1, p.2) (items_fail (λ known. u32_at) c.args.count c.loop-i._i _ _ _ _ (omega arith) c.in_err-id.ensures c.loop-i.invariant.0)

pub returns : goal.returns
returns c = items_done (λ known. u32_at) c.args.count c.loop-i._i _ _ _ (omega arith) c.loop-i.invariant.0
