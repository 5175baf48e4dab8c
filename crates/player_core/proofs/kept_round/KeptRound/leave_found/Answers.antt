use Rattle.std.proofs.Common.{◌≡◌, ℕ, List, Bool, not, filter, sym, ap, subst, ◌∙◌, rules, arith}
use Rattle.std.proofs.lemmas.Fn.{filter_same}
use Rattle.player_core.specs.Place.{IsRound, id_leaves}
use Rattle.player_core.proofs.KeptRounds.{round_filtered}
use Rattle.player_core.proofs.kept_round.KeptRound.leave_found.Goals as goal

pub returns : goal.returns
returns c =
    let stays : ℕ → Bool = λ id. not (id_leaves c.args.block c.args.dropped.now c.args.entries.now id) in
    filter_same _ stays _ (λ x b f k. search rules) _ _ c.retain.ensures.filtered
    ∙ ap (λ (ids : List ℕ). filter stays ids) c.self.view_is

pub invariant_of-self : goal.invariant_of-self
invariant_of-self c =
    let stays : ℕ → Bool = λ id. not (id_leaves c.args.block c.args.dropped.now c.args.entries.now id) in
    let kept : c.retain.new.self.items ≡ filter stays c.self.inside.ids.items =
    filter_same _ stays _ (λ x b f k. search rules) _ _ c.retain.ensures.filtered in (
      subst IsRound (sym kept) (round_filtered stays c.self.inside.ids.items c.self.invariant.0),
      omega (arith, c.retain.ensures.capacity, c.self.invariant.1),
    )
