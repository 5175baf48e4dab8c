use Rattle.std.proofs.Common.{ap, sym, ◌∙◌}
use Rattle.machine_core.specs.Named.{numbers_named}
use Rattle.machine_core.proofs.Answering.{also}
use Rattle.machine_core.proofs.Queue.Meanings.{songs_added}
use Rattle.machine_core.proofs.machine.Machine.add_named.Goals as goal

pub returns : goal.returns
returns c =
    let m = c.args.self.now in
    also _ _ m _ _ _ _
    (songs_added c.args.uri c.args.to m c.in_ok-rows.rows
    (ap (λ uri. numbers_named m.saved.profile m.saved.songs uri) (sym c.as_str.ensures) ∙ c.in_ok-rows.ensures))
    c.add_rows.ensures
