use Rattle.std.proofs.Common.{◌≡◌}
use Rattle.mio_clients.specs.Connections.{Reads, IsReading}
use Rattle.mio_clients.specs.Yielding.{IsHeard}
use Rattle.mio_clients.proofs.client.Client.read_often.Given as goal

abbrev pub invariant-loop-call : goal.invariant-loop-call
invariant-loop-call g l = record {
  reads : Reads g.S.Stream.remaining g.S.Stream.contents l.initial.self l.self l.initial.queue.events l.queue.events;
  reading : IsReading l.self;
  same : l.self ≡ record l.initial.self { stream = l.self.stream; session = l.self.session; is_closing = l.self.is_closing; last_active = l.self.last_active };
  heard : IsHeard g.S.Stream.remaining l.now l.initial.self l.self;
  spare : l.queue.spare ≡ l.initial.queue.spare;
}
