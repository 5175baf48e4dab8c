use Rattle.std.proofs.Common.{ℕ, rules, refl, ap, ◌∙◌}
use Rattle.std.specs.Global.{Vec}
use Rattle.daemon_core.specs.Request.{is_kill}
use Rattle.daemon_core.specs.declared.handled.Handled.{Handled}
use Rattle.daemon_core.specs.declared.outcome.Ending.TheVariants.{Answered, Closed}
use Rattle.daemon_core.proofs.EndLaws.{ends_so, ready_left}
use Rattle.daemon_core.proofs.parts.CoreParts.end_request.Goals as goal

pub returns-in-Answered : goal.returns-in-Answered
returns-in-Answered c = ends_so c.args.client c.args.self.now (record c.args.self.now { views = c.set.new.self; pictures = c.forget.new.self }) c.args.work c.args.end _
    Answered c.in-Answered.is (record {
      state = λ i. record {
        machine = c.args.self.now.machine;
        clients = c.args.self.now.watch;
        views = c.set.ensures i;
        messages = c.args.self.now.talks.messages;
        pictures = c.forget.ensures.items i;
      };
      answer = search rules;
      closes = search rules;
      ops = ap (λ (h : Handled). h.outcome.ops.items) c.handled.ensures;
      refused_at = ap (λ (h : Handled). h.outcome.refused_at) c.handled.ensures;
      looks = ap (λ (h : Handled). h.outcome.looks) c.handled.ensures;
      ended = ap (λ (h : Handled). h.outcome.ended) c.handled.ensures ∙ ap is_kill c.in-Answered.is;
      changed = ap (λ (h : Handled). h.changed) c.handled.ensures;
      notified = refl;
      one = search rules;
      ready = c.requires.ready;
    })

pub returns-in-Closed : goal.returns-in-Closed
returns-in-Closed c = ends_so c.args.client c.args.self.now c.leave.new.self c.args.work c.args.end _ Closed c.in-Closed.is (record {
  state = search rules;
  answer = search rules;
  closes = search rules;
  ops = ap (λ (h : Handled). h.outcome.ops.items) c.handled-in-Closed.ensures;
  refused_at = ap (λ (h : Handled). h.outcome.refused_at) c.handled-in-Closed.ensures;
  looks = ap (λ (h : Handled). h.outcome.looks) c.handled-in-Closed.ensures;
  ended = ap (λ (h : Handled). h.outcome.ended) c.handled-in-Closed.ensures ∙ ap is_kill c.in-Closed.is;
  changed = ap (λ (h : Handled). h.changed) c.handled-in-Closed.ensures;
  notified = ap (λ (v : Vec ℕ). v.items) c.leave.ensures.notified;
  one = search rules;
  ready = ready_left c.args.self.now c.leave.new.self c.args.client c.requires.ready c.leave.ensures.watch (search rules);
})
