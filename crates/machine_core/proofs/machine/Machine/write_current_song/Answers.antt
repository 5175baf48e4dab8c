use Rattle.std.proofs.Common.{refl, ap}
use Rattle.command_text.proofs.Adding.{adds_same}
use Rattle.machine_core.specs.Entries.{shown_info}
use Rattle.machine_core.specs.State.{MachineState, shown_of}
use Rattle.machine_core.proofs.Answering.{reads}
use Rattle.machine_core.proofs.Playing.Meanings.{current_means}
use Rattle.machine_core.proofs.machine.Machine.write_current_song.Goals as goal

pub returns : goal.returns
returns c =
    let m = c.args.self.now in
    reads _ _ m _ _ c.args.work.now _ c.keep.new.self _ _ (current_means c.args.mask m) c.self.view_is c.len-mark.ensures refl refl
    (adds_same _ _ _ _ _ c.put_current-written.ensures (ap (λ (n : MachineState). shown_info c.args.mask n.saved
    (shown_of n).current) c.self.view_is)) c.keep.ensures
