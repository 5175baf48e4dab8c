use Rattle.std.proofs.Common.{◌++◌, refl, ap}
use Rattle.command_text.specs.AnswerSetup.{setup_status}
use Rattle.command_text.specs.AnswerStatus.{status_lines}
use Rattle.command_text.proofs.Adding.{adds_same}
use Rattle.machine_core.specs.Settings.{status_of}
use Rattle.machine_core.specs.State.{MachineState}
use Rattle.machine_core.proofs.Answering.{reads}
use Rattle.machine_core.proofs.StatusShown.{status_means}
use Rattle.machine_core.proofs.machine.Machine.write_status_lines.Goals as goal

pub returns : goal.returns
returns c =
    let m = c.args.self.now in
    reads _ _ m _ _ c.args.work.now _ c.keep.new.self _ _ (status_means m) c.self.view_is c.len-mark.ensures refl refl
    (adds_same _ _ _ _ _ c.put_all_status-written.ensures
    (ap (λ (n : MachineState). status_lines (status_of n) ++ setup_status n.saved.profile) c.self.view_is)) c.keep.ensures
