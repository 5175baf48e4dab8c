use Rattle.std.proofs.Common.{refl, ap, ◌∙◌}
use Rattle.command_text.specs.AnswerStatus.{volume_line}
use Rattle.command_text.proofs.Adding.{adds_same}
use Rattle.machine_core.specs.State.{MachineState}
use Rattle.machine_core.proofs.Answering.{reads}
use Rattle.machine_core.proofs.machine.Machine.tell_volume.Goals as goal

pub returns : goal.returns
returns c =
    let m = c.args.self.now in
    let volume = c.volume.ensures ∙ ap (λ (n : MachineState). n.saved.volume) c.self.view_is in
    reads _ _ m m _ c.args.work.now _ c.keep.new.self _ _ refl refl c.len-mark.ensures refl refl
    (adds_same _ _ _ _ _ c.write_volume-written.ensures (ap volume_line volume)) c.keep.ensures
