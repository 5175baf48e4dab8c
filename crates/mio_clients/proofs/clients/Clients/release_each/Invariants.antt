use Rattle.std.proofs.Common.{◌≡◌}
use Rattle.mio_clients.specs.Later.{no_bytes, no_requests}
use Rattle.mio_clients.specs.Leaving.{AllFollow}
use Rattle.mio_clients.proofs.clients.Clients.release_each.Given as goal

abbrev pub invariant-loop-client : goal.invariant-loop-client
invariant-loop-client g l = record {
  later : AllFollow g.S.Stream.remaining g.S.Stream.contents no_bytes no_requests l.initial.self l.self;
  events : l.self.events ≡ l.initial.self.events;
}
