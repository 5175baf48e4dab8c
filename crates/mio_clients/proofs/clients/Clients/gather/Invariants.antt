use Rattle.mio_clients.specs.Later.{no_bytes, no_requests}
use Rattle.mio_clients.specs.Leaving.{AllFollow}
use Rattle.mio_clients.proofs.clients.Clients.gather.Given as goal

abbrev pub invariant-loop-token : goal.invariant-loop-token
invariant-loop-token g l = AllFollow g.S.Stream.remaining g.S.Stream.contents no_bytes no_requests l.initial.self l.self
