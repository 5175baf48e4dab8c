use Rattle.std.proofs.Common.{◌==◌, not, rules, tests}
use Rattle.std.proofs.lemmas.Fn.{filter_same}
use Rattle.daemon_core.specs.declared.views.ClientView.{ClientView}
use Rattle.daemon_core.proofs.views.Views.forget.Goals as goal

pub returns-clause-items : goal.returns-clause-items
returns-clause-items c =
    filter_same _ (λ (m : ClientView). not (m.client == c.args.client)) _ (λ x b f k. search (rules, tests)) _ _ c.retain.ensures.filtered
