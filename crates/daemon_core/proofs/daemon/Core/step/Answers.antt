use Rattle.std.proofs.Common.{◌∙◌, ap, subst}
use Rattle.daemon_core.specs.Handled.{Does}
use Rattle.daemon_core.specs.Reported.{IsReported}
use Rattle.daemon_core.specs.State.{State}
use Rattle.daemon_core.specs.Step.{acted}
use Rattle.daemon_core.specs.declared.talk.Talks.{Talks}
use Rattle.daemon_core.proofs.StepLaws.{is_outcome, rebuilt_by, fits_by}
use Rattle.daemon_core.proofs.daemon.Core.step.Goals as goal

pub returns-clause-ok : goal.returns-clause-ok
returns-clause-ok c =
    let taken = c.take_room.ensures in
    is_outcome c.args.self.now c.args.event c.handle.new.self c.tell_waiting.new.self c.in_ok-outcome.field-0
    c.tell_waiting.result
    (subst (λ s. Does (acted s c.args.event c.in_ok-outcome.field-0.outcome.refused_at) c.handle.new.self c.in_ok-outcome.field-0)
    ((λ i. record {
      machine = taken.machine i;
      clients = taken.watch i;
      views = (let m = taken.views i in m.list.items);
      messages = (c.begin.ensures.messages ∙ ap (λ (t : Talks). t.messages) taken.talks) i;
      pictures = (let m = taken.pictures i in m.list.items);
    })
    ∙ c.self.view_is) c.in_ok-outcome.ensures.ok)
    c.tell_waiting.ensures.outputs c.tell_waiting.ensures.watch c.tell_waiting.ensures.machine c.tell_waiting.ensures.views
    c.tell_waiting.ensures.talks c.tell_waiting.ensures.pictures
    c.in_ok-outcome.ensures.place

pub returns-clause-rebuilt : goal.returns-clause-rebuilt
returns-clause-rebuilt c = rebuilt_by c.ops_rebuild_the_state.ensures _ _ _ _
    (subst (IsReported c.args.event) (c.take_room.ensures.machine ∙ ap (λ (s : State). s.machine) c.self.view_is)
    c.in_ok-outcome.ensures.reported)
    (returns-clause-ok c)

pub returns-clause-fits : goal.returns-clause-fits
returns-clause-fits c = fits_by c.ops_rebuild_the_state.ensures _ _ _ _
    (subst (IsReported c.args.event) (c.take_room.ensures.machine ∙ ap (λ (s : State). s.machine) c.self.view_is)
    c.in_ok-outcome.ensures.reported)
    (returns-clause-ok c)
