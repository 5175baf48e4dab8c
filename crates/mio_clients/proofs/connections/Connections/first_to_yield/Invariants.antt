use Rattle.mio_clients.specs.Yielding.{IsFoundBelow}
use Rattle.mio_clients.proofs.connections.Connections.first_to_yield.Given as goal

abbrev pub invariant-loop-key : goal.invariant-loop-key
invariant-loop-key g l = IsFoundBelow g.S.Stream.remote l.to_remote l.self l.key l.found
