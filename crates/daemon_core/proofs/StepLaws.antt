-- One event, from its parts.
use Rattle.std.proofs.Common.{◌≡◌, ◌≤◌, ◌<◌, ◌++◌, length, map, Some, sym, ◌∙◌, ap, arith}
use Rattle.std.specs.Global.{Vec}
use Rattle.std.specs.Prelude.{IfSome}
use Rattle.idle_masks.specs.Watched.{reports_of, after_reports}
use Rattle.machine_core.specs.Size.{max_request_bytes}
use Rattle.machine_core.proofs.Sizes.{body_len}
use Rattle.state_codec.specs.Applied.{all_applied}
use Rattle.state_codec.specs.Spelling.{body_bytes}
use Rattle.daemon_core.specs.Handled.{Does}
use Rattle.daemon_core.specs.Outcome.{IsOutcome, command_count}
use Rattle.daemon_core.specs.Parts.{state_of}
use Rattle.daemon_core.specs.Pending.{with_news}
use Rattle.daemon_core.specs.Reported.{IsReported}
use Rattle.daemon_core.specs.State.{State, with_clients}
use Rattle.daemon_core.specs.Step.{acted, told_to, step}
use Rattle.daemon_core.specs.declared.event.Event.{Event}
use Rattle.daemon_core.specs.declared.handled.Handled.{Handled}
use Rattle.daemon_core.specs.declared.outcome.Outcome.{Outcome}
use Rattle.daemon_core.specs.declared.outcome.Output.{Output}
use Rattle.daemon_core.specs.declared.parts.CoreParts.{CoreParts}
use Rattle.daemon_core.proofs.RebuildLaws.{CommandsRebuild, step_rebuilds}

pub is_outcome : (s : State) (event : Event) (p q : CoreParts) (handled : Handled) (outputs : Vec Output) →
    Does (acted s event handled.outcome.refused_at) p handled →
    outputs.items ≡ handled.outcome.outputs.items ++ map told_to (reports_of (with_news handled.changed p.talks.notified.items p.watch)) →
    q.watch ≡ after_reports (with_news handled.changed p.talks.notified.items p.watch) → q.machine ≡ p.machine → q.views ≡ p.views →
    q.talks ≡ p.talks → q.pictures ≡ p.pictures →
    IfSome handled.outcome.refused_at (λ k. k < command_count event) →
    IsOutcome s event (record handled.outcome { outputs = outputs }) (state_of q)
unfolding step
is_outcome s event p q handled outputs does told watch machine views talks pictures place = record {
  after = (λ i. record {
    machine = machine i;
    clients = watch i;
    views = (let m = views i in m.list.items);
    messages = (let t = talks i in t.messages);
    pictures = (let m = pictures i in m.list.items);
  })
      ∙ (λ i. with_clients (does.state i)
      (after_reports (with_news (does.changed i) (does.notified i) (let v = does.state i in v.clients))));
  outputs = told
      ∙ (λ i. does.answer i ++ map told_to (reports_of (with_news (does.changed i) (does.notified i) (let v = does.state i in v.clients))));
  closes = does.closes;
  ops = does.ops;
  ended = does.ended;
  refused_at = does.refused_at;
  looks = does.looks;
  place = place;
}

pub rebuilt_by : (law : CommandsRebuild) (s : State) (event : Event) (o : Outcome) (t : State) → IsReported event s.machine
    → IsOutcome s event o t →
    all_applied o.ops.items s.machine.saved ≡ Some t.machine.saved
rebuilt_by law s event o t reported h =
    let r = step_rebuilds law s event o.refused_at reported in
    ap (λ ops. all_applied ops s.machine.saved) h.ops ∙ r.state ∙ sym (ap (λ u. Some u.machine.saved) h.after)

pub fits_by : (law : CommandsRebuild) (s : State) (event : Event) (o : Outcome) (t : State) → IsReported event s.machine
    → IsOutcome s event o t →
    length (body_bytes s.machine.saved.profile o.ops.items) ≤ max_request_bytes
fits_by law s event o t reported h =
    let r = step_rebuilds law s event o.refused_at reported in
    let p = s.machine.saved.profile in
    omega (arith, r.fits, body_len p (step s event o.refused_at).ops, ap (λ ops. length (body_bytes p ops)) h.ops)
