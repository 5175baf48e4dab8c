use Rattle.std.proofs.Common.{ℕ, true, false, zero, sym, subst, is_some}
use Rattle.mio_clients.specs.Parts.{EndsWithin, IsWithin, looks_in}
use Rattle.mio_clients.proofs.TurnLaws.{looks_same, serves_twice, serves_as, serves_collected, whole_later, whole_share, whole_refused, whole_told}
use Rattle.mio_clients.proofs.clients.Clients.serve_all.Goals as goal

pub returns-then-goes_on-clause-later : goal.returns-then-goes_on-clause-later
returns-then-goes_on-clause-later g c =
    whole_later g.S.Stream.remaining g.S.Stream.contents true c.args.self.now c.give_outbox.new.self c.args.parts.now.items
    c.push_reserved.new.self.items c.args.pass c.serve_in_time-goes_on.result.1 c.requires.empty
    (serves_twice g.S.Stream.remaining g.S.Stream.contents true c.args.self.now c.serve_in_time-goes_on.new.self c.give_outbox.new.self
    c.args.parts.now.items c.serve_in_time-goes_on.new.parts.items c.push_reserved.new.self.items c.args.pass c.serve_in_time-goes_on.result.1
    c.serve_in_time-goes_on.result.1
    (serves_as g.S.Stream.remaining g.S.Stream.contents c.serve_in_time-goes_on.result.0 true c.args.self.now c.serve_in_time-goes_on.new.self
    c.args.parts.now.items c.serve_in_time-goes_on.new.parts.items c.args.pass c.serve_in_time-goes_on.result.1 c.if-goes_on.true
    c.serve_in_time-goes_on.ensures.serves)
    (serves_collected g.S.Stream.remaining g.S.Stream.contents c.serve_in_time-goes_on.new.self c.give_outbox.new.self c.collect-outbox.result
    c.serve_in_time-goes_on.new.parts.items c.push_reserved.new.self.items c.serve_in_time-goes_on.result.1 c.give_outbox.ensures.later
    c.push_reserved.ensures.items))

pub returns-then-goes_on-clause-share : goal.returns-then-goes_on-clause-share
returns-then-goes_on-clause-share g c =
    whole_share g.S.Stream.remaining g.S.Stream.contents true c.args.self.now c.give_outbox.new.self c.args.parts.now.items
    c.push_reserved.new.self.items c.args.pass c.serve_in_time-goes_on.result.1 c.requires.empty
    (serves_twice g.S.Stream.remaining g.S.Stream.contents true c.args.self.now c.serve_in_time-goes_on.new.self c.give_outbox.new.self
    c.args.parts.now.items c.serve_in_time-goes_on.new.parts.items c.push_reserved.new.self.items c.args.pass c.serve_in_time-goes_on.result.1
    c.serve_in_time-goes_on.result.1
    (serves_as g.S.Stream.remaining g.S.Stream.contents c.serve_in_time-goes_on.result.0 true c.args.self.now c.serve_in_time-goes_on.new.self
    c.args.parts.now.items c.serve_in_time-goes_on.new.parts.items c.args.pass c.serve_in_time-goes_on.result.1 c.if-goes_on.true
    c.serve_in_time-goes_on.ensures.serves)
    (serves_collected g.S.Stream.remaining g.S.Stream.contents c.serve_in_time-goes_on.new.self c.give_outbox.new.self c.collect-outbox.result
    c.serve_in_time-goes_on.new.parts.items c.push_reserved.new.self.items c.serve_in_time-goes_on.result.1 c.give_outbox.ensures.later
    c.push_reserved.ensures.items))

pub returns-then-goes_on-clause-refused : goal.returns-then-goes_on-clause-refused
returns-then-goes_on-clause-refused g c =
    whole_refused g.S.Stream.remaining g.S.Stream.contents true c.args.self.now c.give_outbox.new.self c.args.parts.now.items
    c.push_reserved.new.self.items c.args.pass c.serve_in_time-goes_on.result.1 c.requires.empty
    (serves_twice g.S.Stream.remaining g.S.Stream.contents true c.args.self.now c.serve_in_time-goes_on.new.self c.give_outbox.new.self
    c.args.parts.now.items c.serve_in_time-goes_on.new.parts.items c.push_reserved.new.self.items c.args.pass c.serve_in_time-goes_on.result.1
    c.serve_in_time-goes_on.result.1
    (serves_as g.S.Stream.remaining g.S.Stream.contents c.serve_in_time-goes_on.result.0 true c.args.self.now c.serve_in_time-goes_on.new.self
    c.args.parts.now.items c.serve_in_time-goes_on.new.parts.items c.args.pass c.serve_in_time-goes_on.result.1 c.if-goes_on.true
    c.serve_in_time-goes_on.ensures.serves)
    (serves_collected g.S.Stream.remaining g.S.Stream.contents c.serve_in_time-goes_on.new.self c.give_outbox.new.self c.collect-outbox.result
    c.serve_in_time-goes_on.new.parts.items c.push_reserved.new.self.items c.serve_in_time-goes_on.result.1 c.give_outbox.ensures.later
    c.push_reserved.ensures.items))

pub returns-else-goes_on-clause-later : goal.returns-else-goes_on-clause-later
returns-else-goes_on-clause-later g c =
    whole_later g.S.Stream.remaining g.S.Stream.contents c.serve_in_time-goes_on.result.0 c.args.self.now c.serve_in_time-goes_on.new.self
    c.args.parts.now.items c.serve_in_time-goes_on.new.parts.items c.args.pass c.serve_in_time-goes_on.result.1 c.requires.empty
    c.serve_in_time-goes_on.ensures.serves

pub returns-then-goes_on-clause-quiet : goal.returns-then-goes_on-clause-quiet
returns-then-goes_on-clause-quiet g c =
    λ none within. c.give_outbox.ensures.quiet (is_some c.args.bound) zero
    (c.serve_in_time-goes_on.ensures.quiet c.if-goes_on.true
    (subst (λ (n : ℕ). IsWithin c.args.bound n)
    (looks_same c.serve_in_time-goes_on.new.parts.items c.push_reserved.new.self.items c.collect-outbox.result c.push_reserved.ensures.items)
    within))

pub returns-else-goes_on-clause-quiet : goal.returns-else-goes_on-clause-quiet
returns-else-goes_on-clause-quiet g c =
    λ none within. whole_told g.S.Stream.remaining g.S.Stream.contents (is_some c.args.bound) c.args.self.now c.serve_in_time-goes_on.new.self c.args.parts.now.items
    c.serve_in_time-goes_on.new.parts.items c.args.pass c.serve_in_time-goes_on.result.1 c.requires.empty
    (serves_as g.S.Stream.remaining g.S.Stream.contents c.serve_in_time-goes_on.result.0 false c.args.self.now c.serve_in_time-goes_on.new.self
    c.args.parts.now.items c.serve_in_time-goes_on.new.parts.items c.args.pass c.serve_in_time-goes_on.result.1 c.if-goes_on.false
    c.serve_in_time-goes_on.ensures.serves) none

pub returns-then-goes_on-clause-bounded : goal.returns-then-goes_on-clause-bounded
returns-then-goes_on-clause-bounded g c =
    subst (λ (n : ℕ). EndsWithin c.args.bound n)
    (sym (looks_same c.serve_in_time-goes_on.new.parts.items c.push_reserved.new.self.items c.collect-outbox.result c.push_reserved.ensures.items))
    c.serve_in_time-goes_on.ensures.bounded

pub returns-else-goes_on-clause-bounded : goal.returns-else-goes_on-clause-bounded
returns-else-goes_on-clause-bounded g c =
    c.serve_in_time-goes_on.ensures.bounded
