use Rattle.std.proofs.Common.{◌≡◌, ℕ, List, Ok, ap, sym, ◌∙◌}
use Rattle.play_queue.specs.Limits.{MAX_ENTRIES}
use Rattle.play_queue.specs.Positions.{items_of, positions_of}
use Rattle.machine_core.proofs.Queue.Meanings.{places_within}
use Rattle.machine_core.proofs.machine.Machine.spans_of_ids.Goals as goal

pub each_alone-requires : goal.each_alone-requires
each_alone-requires c =
    let queue = c.queue-queue.result.now in
    let found : positions_of queue.entries c.args.ids.now ≡ Ok c.deref.result.now =
    sym c.in_ok-places.ensures ∙ ap items_of c.in-Ok.is ∙ ap (λ (places : List ℕ). Ok places) (sym c.deref.ensures.value) in
    places_within queue.entries c.args.ids.now c.deref.result.now MAX_ENTRIES found c.entries-limit.ensures.kept.few
