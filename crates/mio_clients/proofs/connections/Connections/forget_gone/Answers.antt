use Rattle.std.proofs.Common.{List, sym, subst, ◌∙◌, ap}
use Rattle.mio_clients.specs.declared.event.ClientEvent.{ClientEvent}
use Rattle.mio_clients.specs.Events.{asked_in}
use Rattle.mio_clients.specs.Connections.{ConnectionsState}
use Rattle.mio_clients.specs.Waiting.{QuietBehind}
use Rattle.mio_clients.proofs.ForgetLaws.{asked_without_own, none_without, quiet_without}
use Rattle.mio_clients.proofs.FollowLaws.{all_itself, all_forgotten}
use Rattle.slab.specs.Slab.{get}
use Rattle.mio_clients.proofs.OverLaws.{is_there}
use Rattle.mio_clients.proofs.WaitingLaws.{quiet_itself}
use Rattle.mio_clients.proofs.connections.Connections.forget_gone.Goals as goal

pub returns-in-None-clause-later : goal.returns-in-None-clause-later
returns-in-None-clause-later g c =
    let same = c.forget.ensures.same in
    all_forgotten g.S.Stream.remaining g.S.Stream.contents c.args.self.now c.forget.new.self c.args.id c.in-None.ensures.found
    (ap (λ (t : ConnectionsState g.row.S.Denot). t.clients) same) (ap (λ (t : ConnectionsState g.row.S.Denot). t.last_id) same)
    (ap (λ (t : ConnectionsState g.row.S.Denot). t.left) same) (ap (λ (t : ConnectionsState g.row.S.Denot). t.events) same)

pub returns-in-Some-clause-later : goal.returns-in-Some-clause-later
returns-in-Some-clause-later g c = all_itself g.S.Stream.remaining g.S.Stream.contents c.args.self.now

pub returns-in-None-clause-forgotten : goal.returns-in-None-clause-forgotten
returns-in-None-clause-forgotten g c =
    λ vacant. ap (λ (t : ConnectionsState g.row.S.Denot). asked_in c.args.id t.events) c.forget.ensures.same
    ∙ asked_without_own c.args.id c.args.self.now.events

pub returns-in-Some-clause-forgotten : goal.returns-in-Some-clause-forgotten
returns-in-Some-clause-forgotten g c =
    λ vacant. absurd (is_there (get c.args.self.now.clients c.in-Some.field-0) c.args.id c.in-Some.ensures.found
    (λ client there. vacant c.in-Some.field-0 client there))

pub returns-in-None-clause-others : goal.returns-in-None-clause-others
returns-in-None-clause-others g c =
    λ n none. ap (λ (t : ConnectionsState g.row.S.Denot). asked_in n t.events) c.forget.ensures.same
    ∙ none_without c.args.id n c.args.self.now.events none

pub returns-in-None-clause-quiet : goal.returns-in-None-clause-quiet
returns-in-None-clause-quiet g c =
    let same = ap (λ (t : ConnectionsState g.row.S.Denot). t.events) c.forget.ensures.same in
    λ waits n h. subst (λ (t : List ClientEvent). QuietBehind waits n t) (sym same) (quiet_without waits c.args.id n c.args.self.now.events h)

pub returns-in-Some-clause-quiet : goal.returns-in-Some-clause-quiet
returns-in-Some-clause-quiet g c = quiet_itself c.args.self.now.events
