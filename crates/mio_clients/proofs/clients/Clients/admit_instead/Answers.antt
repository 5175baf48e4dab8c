use Rattle.std.proofs.Common.{◌∙◌, Bool, ap, inl, inr, refl, sym, subst}
use Rattle.mio_clients.specs.Connections.{ConnectionsState, IsFull}
use Rattle.mio_clients.specs.Later.{no_bytes, no_requests}
use Rattle.mio_clients.specs.Leaving.{IsFollowed}
use Rattle.mio_clients.specs.Yielding.{IsFirstToYield, NoneYields, Replaces}
use Rattle.mio_clients.proofs.AcceptLaws.{one_gives_way}
use Rattle.mio_clients.proofs.FollowLaws.{later_itself}
use Rattle.mio_clients.proofs.clients.Clients.admit_instead.Goals as goal

pub returns-then-is_spent-clause-later : goal.returns-then-is_spent-clause-later
returns-then-is_spent-clause-later g c = later_itself g.S.Stream.remaining g.S.Stream.contents c.args.self.now

pub returns-in_default-clause-later : goal.returns-in_default-clause-later
returns-in_default-clause-later g c = later_itself g.S.Stream.remaining g.S.Stream.contents c.args.self.now

pub returns-in_default-clause-comes_to : goal.returns-in_default-clause-comes_to
returns-in_default-clause-comes_to g c = (
  c.requires.full,
  inl (subst (λ (t : Bool). NoneYields g.S.Stream.remote t c.args.self.now) c.is_remote.ensures
      (subst (λ (s : ConnectionsState g.row.S.Denot). NoneYields g.S.Stream.remote c.is_remote.result s) c.self.view_is c.in_default.ensures)),
  refl,
)

pub returns-then-is_ok-clause-comes_to : goal.returns-then-is_ok-clause-comes_to
returns-then-is_ok-clause-comes_to g c =
    inr (subst (λ (s : ConnectionsState g.row.S.Denot). Replaces g.S.Stream.remote c.args.stream s c.replace.new.self) c.self.view_is (record {
      full = subst (λ (s : ConnectionsState g.row.S.Denot). IsFull s) (sym c.self.view_is) c.requires.full;
      key = c.in-Some.key;
      first = subst (λ (t : Bool). IsFirstToYield g.S.Stream.remote t c.self.inside.connections c.in-Some.key) c.is_remote.ensures c.in-Some.ensures;
      between = c.replace.ensures.replaced.0;
      loses = c.replace.ensures.replaced.1;
      registered = c.register.new.stream;
      admitted = c.replace.ensures.replaced.2;
    }))

pub returns-else-is_ok-clause-later : goal.returns-else-is_ok-clause-later
returns-else-is_ok-clause-later g c =
    let rem = g.S.Stream.remaining in
    let con = g.S.Stream.contents in
    subst (λ (s : ConnectionsState g.row.S.Denot). IsFollowed rem con no_bytes no_requests s c.self.inside.connections) c.self.view_is
    (later_itself rem con c.self.inside.connections)

pub returns-else-is_ok-clause-comes_to : goal.returns-else-is_ok-clause-comes_to
returns-else-is_ok-clause-comes_to g c =
    let first : IsFirstToYield g.S.Stream.remote (g.S.Stream.remote c.args.stream) c.self.inside.connections c.in-Some.key =
    subst (λ (t : Bool). IsFirstToYield g.S.Stream.remote t c.self.inside.connections c.in-Some.key) c.is_remote.ensures c.in-Some.ensures in (
      λ _. one_gives_way g.S.Stream.remote c.args.stream c.args.self.now c.in-Some.key
          (subst (λ (s : ConnectionsState g.row.S.Denot). IsFirstToYield g.S.Stream.remote (g.S.Stream.remote c.args.stream) s c.in-Some.key) c.self.view_is first)
          (λ spent. absurd (cc (c.is_spent.ensures.1 (ap (λ (s : ConnectionsState g.row.S.Denot). s.last_id) c.self.view_is ∙ spent), c.if-is_spent.false))),
      c.self.view_is,
    )
