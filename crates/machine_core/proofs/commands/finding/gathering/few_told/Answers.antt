use Rattle.std.proofs.Common.{map, ap, ◌∙◌}
use Rattle.filter_expr.specs.Meaning.{is_match}
use Rattle.machine_core.proofs.commands.finding.gathering.few_told.Goals as goal

pub returns-clause-found : goal.returns-clause-found
returns-clause-found c =
    c.in-Ok.ensures.rows (is_match c.args.case c.args.filter.now)
    (ap (map (λ row. row.now)) c.deref.ensures.value ∙ c.in_ok-found.ensures.found)
