use Rattle.std.proofs.Common.{◌≡◌, ◌⊎◌, List, Err, Ok}
use Rattle.mio_clients.specs.declared.refusal.ClientsError.TheVariants.{TooManyClients}
use Rattle.mio_clients.specs.Connections.{IsFull}
use Rattle.mio_clients.specs.Later.{no_bytes, no_requests}
use Rattle.mio_clients.specs.Leaving.{IsFollowed}
use Rattle.mio_clients.specs.Yielding.{AcceptsAll, Arrival, TellsOf, has_refused, who_yields}
use Rattle.mio_clients.proofs.clients.Clients.accept_each.Given as goal

abbrev pub invariant-loop-call : goal.invariant-loop-call
invariant-loop-call g l = record {
  later : IsFollowed g.S.Stream.remaining g.S.Stream.contents no_bytes no_requests l.initial.self l.self;
  accepted : (arrivals : List (Arrival g.row.S.Denot)) × AcceptsAll (who_yields l.is_yielding g.S.Stream.remote) arrivals l.initial.self l.self × TellsOf l.result (has_refused arrivals);
  full : (l.result ≡ Ok tt) ⊎ ((l.result ≡ Err TooManyClients) × IsFull l.self);
}
