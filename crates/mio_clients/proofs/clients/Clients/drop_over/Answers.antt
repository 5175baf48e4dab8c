use Rattle.std.proofs.Common.{◌≡◌, refl, subst}
use Rattle.slab.specs.Slab.{get}
use Rattle.mio_clients.specs.Connections.{ConnectionsState}
use Rattle.mio_clients.specs.Later.{no_bytes, no_requests}
use Rattle.mio_clients.specs.Leaving.{AllFollow}
use Rattle.mio_clients.specs.Yielding.{OnlyIfOver}
use Rattle.mio_clients.proofs.FollowLaws.{all_itself}
use Rattle.mio_clients.proofs.OverLaws.{others_stay, over_goes}
use Rattle.mio_clients.proofs.clients.Clients.drop_over.Goals as goal

pub returns-then-is_over-clause-later : goal.returns-then-is_over-clause-later
returns-then-is_over-clause-later g c =
    let rem = g.S.Stream.remaining in
    let con = g.S.Stream.contents in
    subst (λ (s : ConnectionsState g.row.S.Denot). AllFollow rem con no_bytes no_requests s c.remove.new.self) c.self.view_is
    c.remove.ensures.later

pub returns-then-is_over-clause-over : goal.returns-then-is_over-clause-over
returns-then-is_over-clause-over g c =
    let a : ConnectionsState g.row.S.Denot = c.self.inside.connections in
    subst (λ (s : ConnectionsState g.row.S.Denot). OnlyIfOver c.args.key s c.remove.new.self) c.self.view_is
    (over_goes (c.remove.new.self ≡ a) (get a.clients c.args.key) a.events c.is_over.result c.is_over.ensures c.if-is_over.true)

pub returns-else-is_over-clause-later : goal.returns-else-is_over-clause-later
returns-else-is_over-clause-later g c = all_itself g.S.Stream.remaining g.S.Stream.contents c.args.self.now

pub returns-else-is_over-clause-over : goal.returns-else-is_over-clause-over
returns-else-is_over-clause-over g c =
    others_stay (c.args.self.now ≡ c.args.self.now) (get c.args.self.now.clients c.args.key) c.args.self.now.events refl
