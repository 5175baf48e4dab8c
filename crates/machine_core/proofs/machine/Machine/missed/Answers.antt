use Rattle.std.proofs.Common.{sym, ap, subst, ◌∙◌}
use Rattle.machine_core.specs.Happening.{HasHappened, Happening}
use Rattle.machine_core.specs.Missing.{withheld_job, withholds}
use Rattle.machine_core.specs.declared.job.WithheldJob.{WithheldJob}
use Rattle.machine_core.proofs.Missing.{missed_ahead, missed_withheld}
use Rattle.machine_core.proofs.machine.Machine.missed.Goals as goal

pub returns-then-not-is_withheld-clause-ok : goal.returns-then-not-is_withheld-clause-ok
returns-then-not-is_withheld-clause-ok c =
    let m = c.args.self.now in
    subst (λ (h : Happening). HasHappened h m c.go_ahead.new.self c.go_ahead.result)
    (sym (missed_ahead c.args.job c.args.missing m (sym c.if-not-runs_job.ensures) (sym c.if-not-is_withheld.ensures))) c.go_ahead.ensures

pub withhold-requires : goal.withhold-requires
withhold-requires c =
    let m = c.args.self.now in
    c.in_ok-withheld.ensures ∙ ap (λ (w : WithheldJob). withheld_job w.missing m) (sym c.in_ok-withheld.ensures)

pub returns-clause-ok : goal.returns-clause-ok
returns-clause-ok c =
    let m = c.args.self.now in
    subst (λ (h : Happening). HasHappened h m c.withhold.new.self c.withhold.result)
    (ap (λ (w : WithheldJob). withholds w.missing m) c.in_ok-withheld.ensures
    ∙ sym (missed_withheld c.args.job c.args.missing m (sym c.if-not-runs_job.ensures) (sym c.if-not-is_withheld.ensures)))
    c.withhold.ensures
