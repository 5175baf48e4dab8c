use Rattle.std.proofs.Common.{List, inl, inr, sym, subst, ◌∙◌, ap}
use Rattle.mio_clients.specs.declared.event.ClientEvent.{ClientEvent}
use Rattle.mio_clients.specs.Events.{asked_in}
use Rattle.mio_clients.specs.Connections.{ConnectionsState, IsVacant}
use Rattle.mio_clients.specs.Later.{bytes_for, no_requests}
use Rattle.mio_clients.specs.Leaving.{AllFollow}
use Rattle.mio_clients.specs.Waiting.{QuietBehind, StaysQuiet}
use Rattle.mio_clients.proofs.ForgetLaws.{asked_without_own, quiet_without}
use Rattle.mio_clients.proofs.FollowLaws.{all_then_none, all_forgotten}
use Rattle.mio_clients.proofs.clients.Clients.give.Goals as goal

pub returns-then-not-give-clause-later : goal.returns-then-not-give-clause-later
returns-then-not-give-clause-later g c =
    let rem = g.S.Stream.remaining in
    let con = g.S.Stream.contents in
    let a : ConnectionsState g.row.S.Denot = c.self.inside.connections in
    let m : ConnectionsState g.row.S.Denot = c.give.new.self in
    let e : ConnectionsState g.row.S.Denot = c.forget.new.self in
    let same = c.forget.ensures.same in
    let vacant : IsVacant m c.args.client = c.give.ensures.vacant c.if-not-give.true in
    let on = all_then_none rem con a m e (bytes_for c.args.client c.args.bytes.now) no_requests c.give.ensures.later
    (all_forgotten rem con m e c.args.client vacant (ap (λ (t : ConnectionsState g.row.S.Denot). t.clients) same)
    (ap (λ (t : ConnectionsState g.row.S.Denot). t.last_id) same) (ap (λ (t : ConnectionsState g.row.S.Denot). t.left) same)
    (ap (λ (t : ConnectionsState g.row.S.Denot). t.events) same)) in
    subst (λ (s : ConnectionsState g.row.S.Denot). AllFollow rem con (bytes_for c.args.client c.args.bytes.now) no_requests s e) c.self.view_is on

pub returns-then-not-give-clause-quiet : goal.returns-then-not-give-clause-quiet
returns-then-not-give-clause-quiet g c =
    let same = ap (λ (t : ConnectionsState g.row.S.Denot). t.events) c.forget.ensures.same in
    let before : StaysQuiet c.args.self.now.events c.give.new.self.events =
    subst (λ (s : ConnectionsState g.row.S.Denot). StaysQuiet s.events c.give.new.self.events) c.self.view_is c.give.ensures.quiet in
    λ waits n h. subst (λ (t : List ClientEvent). QuietBehind waits n t) (sym same)
    (quiet_without waits c.args.client n c.give.new.self.events (before waits n h))

pub returns-then-not-give-clause-forgotten : goal.returns-then-not-give-clause-forgotten
returns-then-not-give-clause-forgotten g c =
    λ vacant. inr (ap (λ (t : ConnectionsState g.row.S.Denot). asked_in c.args.client t.events) c.forget.ensures.same
    ∙ asked_without_own c.args.client c.give.new.self.events)

pub returns-else-not-give-clause-forgotten : goal.returns-else-not-give-clause-forgotten
returns-else-not-give-clause-forgotten g c =
    λ vacant. inl (subst (λ (s : ConnectionsState g.row.S.Denot). IsVacant s c.args.client) c.self.view_is
    (c.give.ensures.stays c.if-not-give.false vacant))

pub returns-then-not-give-clause-nobody : goal.returns-then-not-give-clause-nobody
returns-then-not-give-clause-nobody g c =
    λ vacant.
    let was = subst (λ (s : ConnectionsState g.row.S.Denot). IsVacant s c.args.client) (sym c.self.view_is) vacant in
    absurd (cc ((c.give.ensures.nobody was).0, c.if-not-give.true))

pub returns-else-not-give-clause-nobody : goal.returns-else-not-give-clause-nobody
returns-else-not-give-clause-nobody g c =
    λ vacant.
    let was = subst (λ (s : ConnectionsState g.row.S.Denot). IsVacant s c.args.client) (sym c.self.view_is) vacant in
    (c.give.ensures.nobody was).1 ∙ c.self.view_is
