use Rattle.std.proofs.Common.{[], refl}
use Rattle.machine_core.proofs.ReportsLaws.{player_happened}
use Rattle.machine_core.proofs.machine.Machine.fed.Goals as goal

pub returns : goal.returns
returns c =
    player_happened _ c.args.self.now c.feed.new.self _ c.before-before.result [] c.before-before.ensures.kept c.feed.ensures
    c.new.ensures.items refl c.before-before.ensures.value c.changed_since-changed.ensures
