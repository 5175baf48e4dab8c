use Rattle.std.proofs.Common.{◌∙◌}
use Rattle.std.proofs.lemmas.Result.{IfOk-weaker}
use Rattle.machine_core.proofs.Finding.Values.{own_values}
use Rattle.machine_core.proofs.commands.finding.values.values_of_all.Goals as goal

pub returns-then-tells_own_alone : goal.returns-then-tells_own_alone
returns-then-tells_own_alone c = IfOk-weaker c.own_values.result _ _ (λ values h. h
    ∙ own_values c.args.profile c.args.songs.now c.args.tag (c.tells_own_alone.ensures c.if-tells_own_alone.true)) c.own_values.ensures
