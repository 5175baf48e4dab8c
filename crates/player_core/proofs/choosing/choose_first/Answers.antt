use Rattle.std.proofs.Common.{◌∙◌, ap}
use Rattle.player_core.specs.Words.{next_order}
use Rattle.player_core.specs.Choice.{least, new_round}
use Rattle.player_core.proofs.Leaving.{staying-all}
use Rattle.player_core.proofs.choosing.choose_first.Goals as goal

pub returns-then-settings : goal.returns-then-settings
returns-then-settings c =
    let order = next_order c.args.settings.now.order in
    rw c.if-settings.true (c.again.ensures ∙ ap (λ l. new_round order (least c.args.settings.now.key order l))
    (staying-all 0 c.args.entries.now))
