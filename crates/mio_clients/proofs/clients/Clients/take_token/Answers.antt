use Rattle.std.proofs.Common.{subst}
use Rattle.mio_clients.specs.Connections.{ConnectionsState}
use Rattle.mio_clients.specs.Later.{no_bytes, no_requests}
use Rattle.mio_clients.specs.Leaving.{AllFollow}
use Rattle.mio_clients.proofs.FollowLaws.{all_itself}
use Rattle.mio_clients.proofs.clients.Clients.take_token.Goals as goal

pub returns-in-Listener : goal.returns-in-Listener
returns-in-Listener g c =
    let rem = g.S.Stream.remaining in
    let con = g.S.Stream.contents in
    record { later = subst (λ (s : ConnectionsState g.row.S.Denot). AllFollow rem con no_bytes no_requests s c.self.inside.connections) c.self.view_is (all_itself rem con c.self.inside.connections) }

pub returns-in-Woken : goal.returns-in-Woken
returns-in-Woken g c = record { later = all_itself g.S.Stream.remaining g.S.Stream.contents c.args.self.now }
