use Rattle.std.proofs.Common.{◌≡◌, inl, ◌∙◌}
use Rattle.mio_clients.specs.declared.client.Reading.TheVariants.{More}
use Rattle.mio_clients.proofs.GivenLaws.{reads_twice, same_but_read, part_behind}
use Rattle.mio_clients.proofs.YieldLaws.{heard_twice}
use Rattle.mio_clients.proofs.client.Client.read_often.Goals as goal

pub returns-then-not-is_more-clause-heard : goal.returns-then-not-is_more-clause-heard
returns-then-not-is_more-clause-heard g c =
    heard_twice g.S.Stream.remaining c.args.now c.args.self.now c.loop-call.self c.read_once-reading.new.self c.loop-call.invariant.heard
    c.read_once-reading.ensures.heard

pub returns-clause-heard : goal.returns-clause-heard
returns-clause-heard g c = c.loop-call.invariant.heard

pub returns-then-not-is_more-clause-reads : goal.returns-then-not-is_more-clause-reads
returns-then-not-is_more-clause-reads g c =
    λ ok. reads_twice g.S.Stream.remaining g.S.Stream.contents c.args.self.now c.loop-call.self c.read_once-reading.new.self
    c.args.queue.now.events c.loop-call.queue.events c.read_once-reading.new.queue.events c.loop-call.invariant.reads
    (c.read_once-reading.ensures.reads ok)

pub returns-then-not-is_more-clause-refused : goal.returns-then-not-is_more-clause-refused
returns-then-not-is_more-clause-refused g c =
    λ no. part_behind g.S.Stream.remaining g.S.Stream.contents c.args.self.now c.loop-call.self c.read_once-reading.new.self
    c.args.queue.now.events c.loop-call.queue.events c.read_once-reading.new.queue.events c.requires.reading c.loop-call.invariant.reads
    (c.read_once-reading.ensures.refused no)

pub loop-call-preserved : goal.loop-call-preserved
loop-call-preserved g c =
    let more : c.read_once-reading.result ≡ More = c.is_more.ensures.0 c.if-not-is_more.false in
    record {
      reads = reads_twice g.S.Stream.remaining g.S.Stream.contents c.args.self.now c.loop-call.self c.read_once-reading.new.self
          c.args.queue.now.events c.loop-call.queue.events c.read_once-reading.new.queue.events c.loop-call.invariant.reads
          (c.read_once-reading.ensures.reads (λ e. absurd (cc (e, more))));
      reading = c.read_once-reading.ensures.goes_on (inl more);
      same = same_but_read g.S.Stream.remaining g.S.Stream.contents c.args.self.now c.loop-call.self c.read_once-reading.new.self
          c.loop-call.invariant.same c.read_once-reading.ensures.same;
      heard = heard_twice g.S.Stream.remaining c.args.now c.args.self.now c.loop-call.self c.read_once-reading.new.self
          c.loop-call.invariant.heard c.read_once-reading.ensures.heard;
      spare = c.read_once-reading.ensures.spare ∙ c.loop-call.invariant.spare;
    }
