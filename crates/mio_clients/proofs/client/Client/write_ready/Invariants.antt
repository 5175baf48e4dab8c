use Rattle.std.proofs.Common.{◌≡◌, [], length}
use Rattle.mio_clients.specs.Given.{Moves}
use Rattle.mio_clients.proofs.client.Client.write_ready.Given as goal

abbrev pub invariant-loop-self : goal.invariant-loop-self
invariant-loop-self g l = record {
  moves : Moves g.S.Stream.remaining g.S.Stream.contents [] [] l.initial.self l.self;
  same : l.self ≡ record l.initial.self { stream = l.self.stream; session = l.self.session };
}

abbrev pub decreases-loop-self : goal.decreases-loop-self
decreases-loop-self g l = length l.self.session.queued
