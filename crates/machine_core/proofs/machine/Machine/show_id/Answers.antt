use Rattle.std.proofs.Common.{refl, sym, ap}
use Rattle.command_text.proofs.Adding.{adds_same}
use Rattle.machine_core.specs.Entries.{position_info}
use Rattle.machine_core.specs.State.{MachineState}
use Rattle.machine_core.proofs.Answering.{reads}
use Rattle.machine_core.proofs.Queue.Meanings.{id_shown}
use Rattle.machine_core.proofs.machine.Machine.show_id.Goals as goal

pub returns : goal.returns
returns c =
    let m = c.args.self.now in
    reads _ _ m m _ c.args.work.now _ c.keep.new.self _ _
    (id_shown c.args.mask c.args.id m c.in_ok-at.at (sym c.in_ok-at.ensures.place)) refl c.len-mark.ensures refl refl
    (adds_same _ _ _ _ _ c.write_position-written.ensures
    (ap (λ (n : MachineState). position_info c.args.mask n.saved c.in_ok-at.at) c.self.view_is)) c.keep.ensures
