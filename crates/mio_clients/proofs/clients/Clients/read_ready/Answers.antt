use Rattle.std.proofs.Common.{Some, subst, ap, ◌∙◌}
use Rattle.mio_clients.specs.Connections.{ConnectionsState, IsFailedAt}
use Rattle.mio_clients.specs.Later.{no_bytes, no_requests}
use Rattle.mio_clients.specs.Leaving.{AllFollow}
use Rattle.mio_clients.proofs.LaterLaws.{fault_of}
use Rattle.mio_clients.proofs.FollowLaws.{all_then_none}
use Rattle.mio_clients.proofs.clients.Clients.read_ready.Goals as goal

pub returns-in-Some-Failed : goal.returns-in-Some-Failed
returns-in-Some-Failed g c =
    let rem = g.S.Stream.remaining in
    let con = g.S.Stream.contents in
    let fails = c.read_at.ensures.failed (c.in-Some-Failed.is ∙ ap Some c.in-Some-Failed.field-0-is) in
    record {
      later = all_then_none rem con c.args.self.now c.read_at.new.self c.let_go.new.self no_bytes no_requests
          (subst (λ (s : ConnectionsState g.row.S.Denot). AllFollow rem con no_bytes no_requests s c.read_at.new.self) c.self.view_is c.read_at.ensures.later)
          c.let_go.ensures.later;
      fault = fault_of rem con g.S.Stream.failed c.args.key c.let_go.result c.args.self.now c.read_at.new.self c.let_go.new.self
          (subst (λ (s : ConnectionsState g.row.S.Denot). IsFailedAt rem con g.S.Stream.failed c.args.key s c.read_at.new.self) c.self.view_is fails)
          c.let_go.ensures.number c.let_go.ensures.loses;
    }
