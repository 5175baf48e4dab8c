use Rattle.mio_clients.specs.Later.{no_bytes, no_requests}
use Rattle.mio_clients.specs.Leaving.{AllFollow}
use Rattle.mio_clients.proofs.clients.Clients.make_places.Given as goal

abbrev pub invariant-loop-key : goal.invariant-loop-key
invariant-loop-key g l = AllFollow g.S.Stream.remaining g.S.Stream.contents no_bytes no_requests l.initial.self l.self
