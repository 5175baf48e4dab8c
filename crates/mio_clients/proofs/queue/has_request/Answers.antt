use Rattle.std.proofs.Common.{◌≡◌, ◌<◌, ◌≤◌, ◌∙◌, ◌+◌, ◌||◌, Bool, rules, sym, ap, drop, length}
use Rattle.mio_clients.specs.Events.{has_request_of}
use Rattle.mio_clients.proofs.WaitingLaws.{has_at, has_end}
use Rattle.mio_clients.proofs.queue.has_request.Goals as goal

pub returns : goal.returns
returns c =
    let es = c.args.events.now.items in
    let behind : length es ≤ c.loop-event.place = search rules in
    sym (c.loop-event.invariant ∙ has_end c.args.client c.loop-event.place es behind)

pub returns-then-is_request_of : goal.returns-then-is_request_of
returns-then-is_request_of c =
    let es = c.args.events.now.items in
    let there : c.loop-event.place < length es = search rules in
    let at = has_at c.args.client c.loop-event.place es c.in-Some.event.now there c.in-Some.ensures.lookup in
    sym (c.loop-event.invariant ∙ (at ∙ ap (λ (t : Bool). t || has_request_of c.args.client (drop (c.loop-event.place + 1) es))
    (sym c.is_request_of.ensures ∙ c.if-is_request_of.true)))

pub loop-event-preserved : goal.loop-event-preserved
loop-event-preserved c =
    let es = c.args.events.now.items in
    let there : c.loop-event.place < length es = search rules in
    let at = has_at c.args.client c.loop-event.place es c.in-Some.event.now there c.in-Some.ensures.lookup in
    c.loop-event.invariant ∙ (at ∙ ap (λ (t : Bool). t || has_request_of c.args.client (drop (c.loop-event.place + 1) es))
    (sym c.is_request_of.ensures ∙ c.if-is_request_of.false))
