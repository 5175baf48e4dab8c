use Rattle.std.proofs.Common.{inl, inr}
use Rattle.mio_clients.proofs.GivenLaws.{read_and_looked, part_looked}
use Rattle.mio_clients.proofs.YieldLaws.{heard_looked}
use Rattle.mio_clients.proofs.client.Client.read_ready.Goals as goal

pub returns-then-is_more-clause-heard : goal.returns-then-is_more-clause-heard
returns-then-is_more-clause-heard g c =
    heard_looked g.S.Stream.remaining c.args.now c.args.self.now c.read_often-reading.new.self c.take_or_close-taken.new.self
    c.read_often-reading.ensures.heard c.take_or_close-taken.ensures.same

pub returns-else-is_more-clause-heard : goal.returns-else-is_more-clause-heard
returns-else-is_more-clause-heard g c =
    heard_looked g.S.Stream.remaining c.args.now c.args.self.now c.read_often-reading.new.self c.take_or_close-taken.new.self
    c.read_often-reading.ensures.heard c.take_or_close-taken.ensures.same

pub returns-then-is_more-clause-reads : goal.returns-then-is_more-clause-reads
returns-then-is_more-clause-reads g c =
    let on = c.goes_on.ensures.0 c.if-not-goes_on.false in
    let more = c.is_more.ensures.0 c.if-is_more.true in
    λ ok. read_and_looked g.S.Stream.remaining g.S.Stream.contents c.args.self.now c.read_often-reading.new.self c.take_or_close-taken.new.self
    c.args.queue.now.events c.read_often-reading.new.queue.events c.take_or_close-taken.new.queue.events
    (c.read_often-reading.ensures.reads ok) (c.read_often-reading.ensures.goes_on on) c.take_or_close-taken.ensures.same
    (c.take_or_close-taken.ensures.taken (λ e. absurd (cc (e, more))))

pub returns-else-is_more-clause-reads : goal.returns-else-is_more-clause-reads
returns-else-is_more-clause-reads g c =
    let on = c.goes_on.ensures.0 c.if-not-goes_on.false in
    λ ok. read_and_looked g.S.Stream.remaining g.S.Stream.contents c.args.self.now c.read_often-reading.new.self c.take_or_close-taken.new.self
    c.args.queue.now.events c.read_often-reading.new.queue.events c.take_or_close-taken.new.queue.events
    (c.read_often-reading.ensures.reads (λ e. elim on [ inl more ↦ absurd (cc (e, more)) | inr drained ↦ absurd (cc (e, drained)) ]))
    (c.read_often-reading.ensures.goes_on on) c.take_or_close-taken.ensures.same (c.take_or_close-taken.ensures.taken ok)

pub returns-else-is_more-clause-refused : goal.returns-else-is_more-clause-refused
returns-else-is_more-clause-refused g c =
    let on = c.goes_on.ensures.0 c.if-not-goes_on.false in
    λ no. part_looked g.S.Stream.remaining g.S.Stream.contents c.args.self.now c.read_often-reading.new.self c.take_or_close-taken.new.self
    c.args.queue.now.events c.read_often-reading.new.queue.events c.take_or_close-taken.new.queue.events c.requires.reading
    (c.read_often-reading.ensures.reads (λ e. elim on [ inl more ↦ absurd (cc (e, more)) | inr drained ↦ absurd (cc (e, drained)) ]))
    c.take_or_close-taken.ensures.same (c.take_or_close-taken.ensures.refused no)
