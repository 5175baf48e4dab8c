use Rattle.std.proofs.Common.{◌≡◌, nat_eq, get_or, sym, ap, ◌∙◌, arith}
use Rattle.std.specs.HashMap.{get}
use Rattle.play_queue.specs.Queue.{QueueState}
use Rattle.play_queue.specs.Positions.{position_of}
use Rattle.play_queue.proofs.Located.{found_more, found_none, is_there}
use Rattle.play_queue.proofs.queue.Queue.many_positions.Goals as goal

pub returns-in-None : goal.returns-in-None
returns-in-None c =
    let id = get_or c.args.ids.now c.loop-id.id-index 0 in
    let entries = ap (λ (q : QueueState). q.entries) c.self.view_is in
    let place : get nat_eq c.in_ok-places.places id ≡ position_of c.args.self.now.entries id =
    rw (c.entries.ensures, entries) at (c.in_ok-places.ensures id (is_there c.args.ids.now c.loop-id.id-index (omega arith))) in
    found_none c.args.self.now.entries c.args.ids.now c.loop-id.positions.items c.loop-id.id-index (omega arith)
    (sym (c.in-None.ensures.value ∙ place)) ∙ c.loop-id.invariant

pub loop-id-preserved : goal.loop-id-preserved
loop-id-preserved c =
    let id = get_or c.args.ids.now c.loop-id.id-index 0 in
    let entries = ap (λ (q : QueueState). q.entries) c.self.view_is in
    let place : get nat_eq c.in_ok-places.places id ≡ position_of c.args.self.now.entries id =
    rw (c.entries.ensures, entries) at (c.in_ok-places.ensures id (is_there c.args.ids.now c.loop-id.id-index (omega arith))) in
    rw c.in_ok-push-in-Some.ensures.items
    (found_more c.args.self.now.entries c.args.ids.now c.loop-id.positions.items c.loop-id.id-index _ (omega arith)
    (sym (c.in-Some.ensures.value ∙ place)) ∙ c.loop-id.invariant)
