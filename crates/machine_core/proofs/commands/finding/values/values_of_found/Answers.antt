use Rattle.std.proofs.Common.{map, ◌∙◌}
use Rattle.machine_core.proofs.Finding.Values.{own_values}
use Rattle.machine_core.proofs.commands.finding.values.values_of_found.Goals as goal

pub returns : goal.returns
returns c =
    c.in_ok-values_among.ensures
    ∙ own_values c.args.profile (map (λ row. row.now) c.args.rows.now) c.args.tag
    (c.tells_own_alone.ensures c.if-not-tells_own_alone.false)
