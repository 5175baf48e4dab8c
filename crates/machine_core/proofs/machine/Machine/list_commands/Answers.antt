use Rattle.std.proofs.Common.{refl, ap, ◌∙◌, arith}
use Rattle.command_text.specs.AnswerNames.{listed_commands}
use Rattle.command_text.proofs.Adding.{adds_same}
use Rattle.machine_core.specs.State.{MachineState}
use Rattle.machine_core.proofs.Answering.{reads}
use Rattle.machine_core.proofs.Database.Lines.{adds_grows}
use Rattle.machine_core.proofs.machine.Machine.list_commands.Goals as goal

pub keep-requires : goal.keep-requires
keep-requires c = omega (arith, c.len-mark.ensures, adds_grows _ _ _ _ c.write_commands-written.ensures)

pub returns : goal.returns
returns c =
    let m = c.args.self.now in
    let profile = c.profile.ensures ∙ ap (λ (n : MachineState). n.saved.profile) c.self.view_is in
    reads _ _ m m _ c.args.work.now _ c.keep.new.self _ _ refl refl c.len-mark.ensures refl refl
    (adds_same _ _ _ _ _ c.write_commands-written.ensures (ap listed_commands profile)) c.keep.ensures
