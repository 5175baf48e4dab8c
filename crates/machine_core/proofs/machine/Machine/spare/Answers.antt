use Rattle.std.proofs.Common.{ap, ◌∙◌, not, rules}
use Rattle.std.proofs.lemmas.Fn.{filter_same}
use Rattle.machine_core.specs.Scanning.{drops_heard, spared}
use Rattle.machine_core.proofs.machine.Machine.spare.Goals as goal

pub returns : goal.returns
returns c =
    filter_same _ (λ change. not (drops_heard c.args.self.now change)) _ (λ x b f k. search rules) _ _ c.retain.ensures.filtered
    ∙ ap (spared c.args.self.now) c.into_vec-spared.ensures.changes
