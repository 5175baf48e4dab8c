use Rattle.std.proofs.Common.{refl, ap, ◌∙◌}
use Rattle.std.specs.List.{flat_map}
use Rattle.command_text.proofs.Adding.{adds_same}
use Rattle.play_queue.specs.Queue.{QueueState}
use Rattle.machine_core.specs.Entries.{file_info}
use Rattle.machine_core.specs.Spans.{positions_in, whole}
use Rattle.machine_core.specs.State.{MachineState}
use Rattle.machine_core.proofs.Answering.{passes, reads}
use Rattle.machine_core.proofs.Queue.Meanings.{files_shown}
use Rattle.machine_core.proofs.machine.Machine.show_files.Goals as goal

pub returns : goal.returns
returns c =
    let m = c.args.self.now in
    let entries = c.entries.ensures.entries
    ∙ ap (λ (q : QueueState). q.entries) (c.queue.ensures ∙ ap (λ (n : MachineState). n.saved.queue) c.self.view_is) in
    reads _ _ m m _ c.args.work.now _ c.keep.new.self _ _
    (files_shown m c.queue_length.result c.queue_length.ensures) refl c.len-mark.ensures refl refl
    (adds_same _ _ _ _ _ c.write_files-written.ensures
    (ap (λ entries. flat_map (file_info entries) (positions_in (whole c.queue_length.result))) entries))
    c.keep.ensures

pub returns-then-is_long : goal.returns-then-is_long
returns-then-is_long c =
    let m = c.args.self.now in
    passes _ _ m m c.args.work.now c.keep_none.new.self _ _ (files_shown m c.queue_length.result c.queue_length.ensures)
    refl c.if-is_long.true c.is_long.ensures c.keep_none.ensures
