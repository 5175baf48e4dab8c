use Rattle.std.proofs.Common.{ap, ◌∙◌}
use Rattle.command_text.specs.AnswerSetup.{setup_status}
use Rattle.command_text.proofs.Adding.{adds_same, adds_stop, adds_then}
use Rattle.machine_core.specs.State.{MachineState}
use Rattle.machine_core.proofs.machine.Machine.put_all_status.Goals as goal

pub returns-in_err-put_status : goal.returns-in_err-put_status
returns-in_err-put_status c = adds_stop _ _ _ _ _ _ c.in_err-put_status.ensures c.from_residual.ensures.0

pub returns : goal.returns
returns c =
    let profile = c.profile.ensures ∙ ap (λ (n : MachineState). n.saved.profile) c.self.view_is in
    adds_then _ _ _ _ _ _ _ c.in_ok-put_status.ensures
    (adds_same _ _ _ _ _ c.write_setup_status.ensures (ap setup_status profile))
