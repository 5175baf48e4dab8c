use Rattle.std.proofs.Common.{◌≡◌, subst}
use Rattle.mio_clients.specs.Connections.{ConnectionsState}
use Rattle.mio_clients.specs.Grouping.{group_len}
use Rattle.mio_clients.proofs.clients.Clients.group_len.Goals as goal

pub returns : goal.returns
returns g c =
    let as_told = subst (λ (s : ConnectionsState g.row.S.Denot). c.group_len.result ≡ group_len c.most_together.result s.events) c.self.view_is
    c.group_len.ensures in
    (c.most_together.result, c.most_together.ensures, as_told)
