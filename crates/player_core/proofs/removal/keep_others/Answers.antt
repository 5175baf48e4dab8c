use Rattle.std.proofs.Common.{ℕ, Bool, ◌==◌, not, rules}
use Rattle.std.specs.List.{list_any}
use Rattle.std.proofs.lemmas.Fn.{filter_same}
use Rattle.player_core.proofs.removal.keep_others.Goals as goal

pub returns-clause-ids : goal.returns-clause-ids
returns-clause-ids c =
    let stays : ℕ → Bool = λ id. not (list_any (λ other. id == other) c.args.leaving.now.keys) in
    filter_same _ stays _ (λ x b f k. search rules) _ _ c.retain.ensures.filtered
