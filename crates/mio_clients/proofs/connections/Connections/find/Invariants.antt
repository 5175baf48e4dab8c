use Rattle.std.proofs.Common.{◌≡◌, ◌≢◌, ℕ, ◌<◌, Some}
use Rattle.slab.specs.Slab.{get}
use Rattle.mio_clients.specs.declared.client.Client.{Client}
use Rattle.mio_clients.proofs.connections.Connections.find.Given as goal

-- none at the keys before
abbrev pub invariant-loop-key : goal.invariant-loop-key
invariant-loop-key g l = (k : ℕ) (client : Client g.row.S.Denot) → k < l.key → get l.self.clients k ≡ Some client → client.id ≢ l.id
