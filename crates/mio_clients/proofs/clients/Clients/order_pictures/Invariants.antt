use Rattle.std.proofs.Common.{◌≡◌}
use Rattle.mio_clients.proofs.clients.Clients.order_pictures.Given as goal

abbrev pub invariant-loop-order : goal.invariant-loop-order
invariant-loop-order g l = l.self ≡ l.initial.self
