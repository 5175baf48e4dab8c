use Rattle.std.proofs.Common.{ap, ◌∙◌}
use Rattle.machine_core.specs.Held.{held}
use Rattle.machine_core.specs.Missing.{is_of_withheld}
use Rattle.machine_core.specs.State.{MachineState}
use Rattle.machine_core.proofs.Missing.{ahead_state, gone_ahead}
use Rattle.machine_core.proofs.machine.Machine.go_ahead.Goals as goal

pub returns : goal.returns
returns c =
    let m = c.args.self.now in
    gone_ahead m _ _
    (ahead_state m (held c.self.inside) c.hide_withheld-shown.new.player c.self.view_is c.hide_withheld-shown.ensures.player)
    c.new.ensures.items
    (λ i. record (c.none-changed.ensures i) {
      player = (c.hide_withheld-shown.ensures.shown ∙ ap (λ (x : MachineState). is_of_withheld x.player.error) c.self.view_is) i;
    })
