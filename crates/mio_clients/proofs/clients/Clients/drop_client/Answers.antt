use Rattle.std.proofs.Common.{List, sym, subst, ◌∙◌, ap}
use Rattle.mio_clients.specs.declared.event.ClientEvent.{ClientEvent}
use Rattle.mio_clients.specs.Events.{asked_in}
use Rattle.mio_clients.specs.Connections.{ConnectionsState, IsVacant}
use Rattle.mio_clients.specs.Later.{no_bytes, no_requests}
use Rattle.mio_clients.specs.Leaving.{AllFollow}
use Rattle.mio_clients.specs.Waiting.{QuietBehind, StaysQuiet}
use Rattle.mio_clients.proofs.ForgetLaws.{asked_without_own, quiet_without}
use Rattle.mio_clients.proofs.FollowLaws.{all_then_none, all_forgotten}
use Rattle.mio_clients.proofs.clients.Clients.drop_client.Goals as goal

pub returns-clause-later : goal.returns-clause-later
returns-clause-later g c =
    let rem = g.S.Stream.remaining in
    let con = g.S.Stream.contents in
    let m : ConnectionsState g.row.S.Denot = c.self.inside.connections in
    let e : ConnectionsState g.row.S.Denot = c.forget.new.self in
    let same = c.forget.ensures.same in
    let vacant : IsVacant m c.args.client = subst (λ (s : ConnectionsState g.row.S.Denot). IsVacant s c.args.client) (sym c.self.view_is) c.let_go_of.ensures.gone in
    all_then_none rem con c.args.self.now c.let_go_of.new.self e no_bytes no_requests c.let_go_of.ensures.later
    (subst (λ (s : ConnectionsState g.row.S.Denot). AllFollow rem con no_bytes no_requests s e) c.self.view_is
    (all_forgotten rem con m e c.args.client vacant (ap (λ (t : ConnectionsState g.row.S.Denot). t.clients) same)
    (ap (λ (t : ConnectionsState g.row.S.Denot). t.last_id) same) (ap (λ (t : ConnectionsState g.row.S.Denot). t.left) same)
    (ap (λ (t : ConnectionsState g.row.S.Denot). t.events) same)))

pub returns-clause-forgotten : goal.returns-clause-forgotten
returns-clause-forgotten g c =
    ap (λ (t : ConnectionsState g.row.S.Denot). asked_in c.args.client t.events) c.forget.ensures.same
    ∙ asked_without_own c.args.client c.self.inside.connections.events

pub returns-clause-quiet : goal.returns-clause-quiet
returns-clause-quiet g c =
    let same = ap (λ (t : ConnectionsState g.row.S.Denot). t.events) c.forget.ensures.same in
    let before : StaysQuiet c.args.self.now.events c.self.inside.connections.events =
    subst (λ (s : ConnectionsState g.row.S.Denot). StaysQuiet c.args.self.now.events s.events) (sym c.self.view_is) c.let_go_of.ensures.quiet in
    λ waits n h. subst (λ (t : List ClientEvent). QuietBehind waits n t) (sym same)
    (quiet_without waits c.args.client n c.self.inside.connections.events (before waits n h))
