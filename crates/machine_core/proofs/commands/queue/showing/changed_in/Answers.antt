use Rattle.std.proofs.Common.{ap, ◌∙◌, filter, rules}
use Rattle.std.proofs.lemmas.Fn.{filter_same}
use Rattle.machine_core.specs.Spans.{holds}
use Rattle.machine_core.proofs.commands.queue.showing.changed_in.Goals as goal

pub returns : goal.returns
returns c =
    filter_same _ (holds c.args.span) _ (λ x b f k. search rules) _ _ c.retain.ensures.filtered
    ∙ ap (filter (holds c.args.span)) c.in_ok-positions.ensures
