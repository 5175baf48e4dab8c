use Rattle.std.proofs.Common.{List, refl, sym, ap, ◌∙◌}
use Rattle.std.specs.List.{flat_map}
use Rattle.command_text.proofs.Adding.{adds_same}
use Rattle.play_queue.specs.Queue.{QueueState}
use Rattle.play_queue.specs.declared.entry.Entry.{Entry}
use Rattle.machine_core.specs.Entries.{place_info}
use Rattle.machine_core.specs.Queue.{changed_in}
use Rattle.machine_core.specs.State.{MachineState}
use Rattle.machine_core.proofs.Answering.{passes, reads}
use Rattle.machine_core.proofs.Queue.Meanings.{places_shown}
use Rattle.machine_core.proofs.machine.Machine.show_changed_places.Goals as goal

pub returns : goal.returns
returns c =
    let m = c.args.self.now in
    let span = c.in_ok-span.span in
    let queue = c.queue-queue.ensures ∙ ap (λ (n : MachineState). n.saved.queue) c.self.view_is in
    let changed = c.in_ok-positions.ensures ∙ ap (λ (q : QueueState). changed_in q c.args.version span) queue in
    let entries = c.entries.ensures.entries ∙ ap (λ (q : QueueState). q.entries) queue in
    reads _ _ m m _ c.args.work.now _ c.keep.new.self _ _
    (places_shown c.args.version c.args.range m span (sym c.in_ok-span.ensures)) refl c.len-mark.ensures refl refl
    (adds_same _ _ _ _ _ c.write_places-written.ensures
    (ap (λ (all : List Entry). flat_map (place_info all) c.deref.result.now) entries
    ∙ ap (flat_map (place_info m.saved.queue.entries)) (c.deref.ensures.value ∙ changed))) c.keep.ensures

pub returns-then-is_long : goal.returns-then-is_long
returns-then-is_long c =
    let m = c.args.self.now in
    passes _ _ m m c.args.work.now c.keep_none.new.self _ _ (places_shown c.args.version c.args.range m c.in_ok-span.span (sym c.in_ok-span.ensures))
    refl c.if-is_long.true c.is_long.ensures c.keep_none.ensures
