use Rattle.std.proofs.Common.{◌≡◌, IfSome, sym, subst}
use Rattle.mio_clients.specs.Connections.{ConnectionsState}
use Rattle.mio_clients.proofs.clients.Clients.begin_turn.Goals as goal

pub returns-clause-told : goal.returns-clause-told
returns-clause-told g c = (
  c.now.new.self,
  subst (λ (s : ConnectionsState g.row.S.Denot). IfSome (g.L.Listener.time_told c.now.new.self) (λ time. s.time ≡ time))
      (sym c.set_time.ensures) c.now.ensures.told,
)
