use Rattle.std.proofs.Common.{inl, sym, subst}
use Rattle.mio_clients.specs.Connections.{ConnectionsState, IsAdmitted, IsFull}
use Rattle.mio_clients.specs.Later.{no_bytes, no_requests}
use Rattle.mio_clients.specs.Leaving.{IsFollowed}
use Rattle.mio_clients.proofs.FollowLaws.{later_itself}
use Rattle.mio_clients.proofs.clients.Clients.admit.Goals as goal

pub returns-then-is_full-clause-later : goal.returns-then-is_full-clause-later
returns-then-is_full-clause-later g c = c.admit_where_full.ensures.later

pub returns-then-is_ok-clause-later : goal.returns-then-is_ok-clause-later
returns-then-is_ok-clause-later g c =
    let rem = g.S.Stream.remaining in
    let con = g.S.Stream.contents in
    subst (λ (s : ConnectionsState g.row.S.Denot). IsFollowed rem con no_bytes no_requests s c.admit.new.self) c.self.view_is c.admit.ensures.later

pub returns-else-is_ok-clause-later : goal.returns-else-is_ok-clause-later
returns-else-is_ok-clause-later g c =
    let rem = g.S.Stream.remaining in
    let con = g.S.Stream.contents in
    subst (λ (s : ConnectionsState g.row.S.Denot). IsFollowed rem con no_bytes no_requests s c.self.inside.connections) c.self.view_is (later_itself rem con c.self.inside.connections)

pub returns-else-is_ok-clause-comes_to : goal.returns-else-is_ok-clause-comes_to
returns-else-is_ok-clause-comes_to g c = (
  λ full. absurd (cc (c.is_full.ensures.1 (subst (λ (s : ConnectionsState g.row.S.Denot). IsFull s) (sym c.self.view_is) full), c.if-is_full.false)),
  c.self.view_is,
)

pub returns-then-is_ok-clause-comes_to : goal.returns-then-is_ok-clause-comes_to
returns-then-is_ok-clause-comes_to g c =
    inl (
      λ full. absurd (cc (c.is_full.ensures.1 (subst (λ (s : ConnectionsState g.row.S.Denot). IsFull s) (sym c.self.view_is) full), c.if-is_full.false)),
      c.register.new.stream,
      subst (λ (s : ConnectionsState g.row.S.Denot). IsAdmitted c.register.new.stream s c.admit.new.self) c.self.view_is c.admit.ensures.admitted,
    )
