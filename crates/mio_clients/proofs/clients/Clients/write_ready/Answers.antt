use Rattle.std.proofs.Common.{Some, subst, ap, ◌∙◌}
use Rattle.mio_clients.specs.Connections.{ConnectionsState, IsFailedAt}
use Rattle.mio_clients.specs.Later.{no_bytes, no_requests}
use Rattle.mio_clients.specs.Leaving.{AllFollow}
use Rattle.mio_clients.proofs.LaterLaws.{fault_of}
use Rattle.mio_clients.proofs.FollowLaws.{all_then_none}
use Rattle.mio_clients.proofs.clients.Clients.write_ready.Goals as goal

pub returns-in-Some-Failed-clause-later : goal.returns-in-Some-Failed-clause-later
returns-in-Some-Failed-clause-later g c =
    let rem = g.S.Stream.remaining in
    let con = g.S.Stream.contents in
    all_then_none rem con c.args.self.now c.write_at.new.self c.let_go.new.self no_bytes no_requests (subst (λ (s : ConnectionsState g.row.S.Denot). AllFollow rem con no_bytes no_requests s c.write_at.new.self) c.self.view_is c.write_at.ensures.later) c.let_go.ensures.later

pub returns-in-Some-Ended-clause-later : goal.returns-in-Some-Ended-clause-later
returns-in-Some-Ended-clause-later g c =
    let rem = g.S.Stream.remaining in
    let con = g.S.Stream.contents in
    all_then_none rem con c.args.self.now c.write_at.new.self c.remove.new.self no_bytes no_requests (subst (λ (s : ConnectionsState g.row.S.Denot). AllFollow rem con no_bytes no_requests s c.write_at.new.self) c.self.view_is c.write_at.ensures.later) c.remove.ensures.later

pub returns-in-Some-Failed-clause-fault : goal.returns-in-Some-Failed-clause-fault
returns-in-Some-Failed-clause-fault g c =
    let rem = g.S.Stream.remaining in
    let con = g.S.Stream.contents in
    let fails = c.write_at.ensures.failed (c.in-Some-Failed.is ∙ ap Some c.in-Some-Failed.field-0-is) in
    fault_of rem con g.S.Stream.failed c.args.key c.let_go.result c.args.self.now c.write_at.new.self c.let_go.new.self
    (subst (λ (s : ConnectionsState g.row.S.Denot). IsFailedAt rem con g.S.Stream.failed c.args.key s c.write_at.new.self) c.self.view_is fails)
    c.let_go.ensures.number c.let_go.ensures.loses
