use Rattle.std.proofs.Common.{refl, ap}
use Rattle.std.specs.List.{flat_map}
use Rattle.command_text.proofs.Adding.{adds_same}
use Rattle.machine_core.specs.Entries.{position_info}
use Rattle.machine_core.specs.Spans.{positions_in, whole}
use Rattle.machine_core.specs.State.{MachineState}
use Rattle.machine_core.proofs.Answering.{passes, reads}
use Rattle.machine_core.proofs.Queue.Meanings.{queue_shown}
use Rattle.machine_core.proofs.machine.Machine.show_queue.Goals as goal

pub returns : goal.returns
returns c =
    let m = c.args.self.now in
    reads _ _ m m _ c.args.work.now _ c.keep.new.self _ _
    (queue_shown c.args.mask m c.queue_length.result c.queue_length.ensures) refl c.len-mark.ensures refl refl
    (adds_same _ _ _ _ _ c.write_span-written.ensures
    (ap (λ (n : MachineState). flat_map (position_info c.args.mask n.saved) (positions_in (whole c.queue_length.result))) c.self.view_is))
    c.keep.ensures

pub returns-then-is_long : goal.returns-then-is_long
returns-then-is_long c =
    let m = c.args.self.now in
    passes _ _ m m c.args.work.now c.keep_none.new.self _ _ (queue_shown c.args.mask m c.queue_length.result c.queue_length.ensures)
    refl c.if-is_long.true c.is_long.ensures c.keep_none.ensures
