use Rattle.std.proofs.Common.{◌≡◌, ◌<◌, ◌≤◌, ◌∙◌, rules, sym, subst, drop, length, arith}
use Rattle.std.specs.Prelude.{get_or}
use Rattle.mio_clients.specs.Connections.{QueueState}
use Rattle.mio_clients.specs.declared.queue.Place.TheVariants.{Inside, Last, Outside}
use Rattle.mio_clients.proofs.GroupLaws.{group_at, group_end, group_full}
use Rattle.mio_clients.proofs.queue.EventQueue.group_len.Goals as goal

pub returns-in_default : goal.returns-in_default
returns-in_default c =
    let es = c.args.self.now.events in
    let behind : length es ≤ c.loop-count.count = search rules in
    record { len = (let none = group_end c.args.most c.loop-count.count es behind in omega (arith, none, c.loop-count.invariant.len)) }

pub returns-in-Outside : goal.returns-in-Outside
returns-in-Outside c =
    let es = c.args.self.now.events in
    let there : c.loop-count.count < length es = search rules in
    let at = group_at c.args.most c.loop-count.count es c.in-Some.event.now Outside c.loop-count-test.true there (subst (λ (q : QueueState). c.in-Some.event.now ≡ get_or q.events c.loop-count.count c.in-Some.event.now) c.self.view_is
    c.in-Some.ensures.lookup)
    (sym c.place_of.ensures ∙ c.in-Outside.is) in
    record { len = omega (arith, at, c.loop-count.invariant.len) }

pub loop-count-preserved : goal.loop-count-preserved
loop-count-preserved c =
    let es = c.args.self.now.events in
    let there : c.loop-count.count < length es = search rules in
    let at = group_at c.args.most c.loop-count.count es c.in-Some.event.now Inside c.loop-count-test.true there (subst (λ (q : QueueState). c.in-Some.event.now ≡ get_or q.events c.loop-count.count c.in-Some.event.now) c.self.view_is
    c.in-Some.ensures.lookup)
    (sym c.place_of.ensures ∙ c.in-Inside.is) in
    record {
      few = omega (arith, c.loop-count-test.true);
      len = omega (arith, at, c.loop-count.invariant.len);
    }

pub returns-in-Last : goal.returns-in-Last
returns-in-Last c =
    let es = c.args.self.now.events in
    let there : c.loop-count.count < length es = search rules in
    let at = group_at c.args.most c.loop-count.count es c.in-Some.event.now Last c.loop-count-test.true there (subst (λ (q : QueueState). c.in-Some.event.now ≡ get_or q.events c.loop-count.count c.in-Some.event.now) c.self.view_is
    c.in-Some.ensures.lookup)
    (sym c.place_of.ensures ∙ c.in-Last.is) in
    record { len = omega (arith, at, c.loop-count.invariant.len) }

pub returns : goal.returns
returns c =
    let none = group_full c.args.most c.loop-count.count (drop c.loop-count.count c.args.self.now.events)
    (omega (arith, c.loop-count-test.false)) in
    record { len = omega (arith, none, c.loop-count.invariant.len) }
