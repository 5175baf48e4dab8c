use Rattle.std.proofs.Common.{◌≡◌, ◌<◌, ◌≤◌, ◌∙◌, ◌+◌, true, rules, sym, subst, length, arith}
use Rattle.std.specs.Prelude.{get_or}
use Rattle.mio_clients.specs.Connections.{QueueState}
use Rattle.mio_clients.proofs.SeekLaws.{quiet_past, served_not, served_to}
use Rattle.mio_clients.proofs.queue.EventQueue.servable.Goals as goal

pub returns-then-not-self : goal.returns-then-not-self
returns-then-not-self c =
    let es = c.args.self.now.events in
    let all : length es ≤ c.len.result = search rules in
    record { quiet = quiet_past true c.len.result es all }

pub loop-event-preserved-then-is_to_serve : goal.loop-event-preserved-then-is_to_serve
loop-event-preserved-then-is_to_serve c = record {
  quiet = served_to (c.loop-event.place + 1) c.args.self.now.events;
  within = omega arith;
}

pub loop-event-preserved-then-is_waiting : goal.loop-event-preserved-then-is_waiting
loop-event-preserved-then-is_waiting c =
    let es = c.args.self.now.events in
    let there : c.loop-event.place < length es = search rules in
    record {
      quiet = served_not c.loop-event.count c.loop-event.place es c.in-Some.event.now there
          (subst (λ (q : QueueState). c.in-Some.event.now ≡ get_or q.events c.loop-event.place c.in-Some.event.now) c.self.view_is
          c.in-Some.ensures.lookup)
          (sym c.is_to_serve.ensures ∙ c.if-is_to_serve.false) c.loop-event.invariant.quiet;
      within = omega (arith, c.loop-event.invariant.within);
    }

pub loop-event-preserved-then-is_front : goal.loop-event-preserved-then-is_front
loop-event-preserved-then-is_front c = record {
  quiet = served_to (c.loop-event.place + 1) c.args.self.now.events;
  within = omega arith;
}

pub loop-event-preserved : goal.loop-event-preserved
loop-event-preserved c =
    let es = c.args.self.now.events in
    let there : c.loop-event.place < length es = search rules in
    record {
      quiet = served_not c.loop-event.count c.loop-event.place es c.in-Some.event.now there
          (subst (λ (q : QueueState). c.in-Some.event.now ≡ get_or q.events c.loop-event.place c.in-Some.event.now) c.self.view_is
          c.in-Some.ensures.lookup)
          (sym c.is_to_serve.ensures ∙ c.if-is_to_serve.false) c.loop-event.invariant.quiet;
      within = omega (arith, c.loop-event.invariant.within);
    }
