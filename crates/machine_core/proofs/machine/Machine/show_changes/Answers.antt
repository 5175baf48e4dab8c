use Rattle.std.proofs.Common.{refl, sym, ap, ◌∙◌}
use Rattle.std.specs.List.{flat_map}
use Rattle.command_text.proofs.Adding.{adds_same}
use Rattle.play_queue.specs.Queue.{QueueState}
use Rattle.machine_core.specs.Entries.{position_info}
use Rattle.machine_core.specs.Queue.{changed_in}
use Rattle.machine_core.specs.State.{MachineState}
use Rattle.machine_core.proofs.Answering.{passes, reads}
use Rattle.machine_core.proofs.Queue.Meanings.{changes_shown}
use Rattle.machine_core.proofs.machine.Machine.show_changes.Goals as goal

pub returns : goal.returns
returns c =
    let m = c.args.self.now in
    let span = c.in_ok-span.span in
    let queue = c.queue.ensures ∙ ap (λ (n : MachineState). n.saved.queue) c.self.view_is in
    let changed = c.in_ok-positions.ensures ∙ ap (λ (q : QueueState). changed_in q c.args.version span) queue in
    reads _ _ m m _ c.args.work.now _ c.keep.new.self _ _
    (changes_shown c.args.mask c.args.version c.args.range m span (sym c.in_ok-span.ensures)) refl c.len-mark.ensures refl refl
    (adds_same _ _ _ _ _ c.write_positions-written.ensures
    (ap (λ (n : MachineState). flat_map (position_info c.args.mask n.saved) c.deref.result.now) c.self.view_is
    ∙ ap (flat_map (position_info c.args.mask m.saved)) (c.deref.ensures.value ∙ changed))) c.keep.ensures

pub returns-then-is_long : goal.returns-then-is_long
returns-then-is_long c =
    let m = c.args.self.now in
    passes _ _ m m c.args.work.now c.keep_none.new.self _ _ (changes_shown c.args.mask c.args.version c.args.range m c.in_ok-span.span (sym c.in_ok-span.ensures))
    refl c.if-is_long.true c.is_long.ensures c.keep_none.ensures
