use Rattle.std.proofs.Common.{subst}
use Rattle.mio_clients.specs.Connections.{ConnectionsState}
use Rattle.mio_clients.specs.Later.{no_bytes, no_requests}
use Rattle.mio_clients.specs.Leaving.{AllFollow}
use Rattle.mio_clients.proofs.clients.Clients.read_or_put_off.Goals as goal

pub returns-then-is_put_off : goal.returns-then-is_put_off
returns-then-is_put_off g c =
    let rem = g.S.Stream.remaining in
    let con = g.S.Stream.contents in
    record {
      later = subst (λ (s : ConnectionsState g.row.S.Denot). AllFollow rem con no_bytes no_requests s c.put_off.new.self) c.self.view_is
          c.put_off.ensures.later;
    }
