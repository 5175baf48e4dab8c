use Rattle.std.proofs.Common.{◌≡◌, ◌∙◌, sym, ap, subst, List, ℕ, Err, None}
use Rattle.std.specs.Prelude.{Option, option_map, IfSome}
use Rattle.std.proofs.lemmas.Result.{IfOk-weaker}
use Rattle.as_wave.specs.FlacLayout.{flac_planned, FlacFits}
use Rattle.as_wave.specs.declared.flac_layout.FlacForm.{FlacForm}
use Rattle.as_wave.proofs.FlacPlans.{by_head, no_head, fails_by}
use Rattle.as_wave.proofs.flac_plan.flac_form.Goals as goal

pub returns-in-Ok-clause-form : goal.returns-in-Ok-clause-form
returns-in-Ok-clause-form g c = λ told.
    IfOk-weaker c.form_of.result _ _ (λ form h. by_head (g.S.Source.bytes c.args.source.now) c.in-Ok.head (c.in-Ok.ensures.head told) ∙ h)
    (c.form_of.ensures.form (g.S.Source.bytes c.args.source.now) (c.len-end.ensures told))

pub returns-in-Err-clause-form : goal.returns-in-Err-clause-form
returns-in-Err-clause-form g c = λ told.
    IfOk-weaker c.refusal.result _ _ (λ form h. no_head (g.S.Source.bytes c.args.source.now) c.in-Err.error (c.in-Err.ensures.refused told h.1)
    ∙ sym (ap (option_map (λ (f : FlacForm). flac_planned f (g.S.Source.bytes c.args.source.now))) h.0)) c.refusal.ensures.verdict

pub returns-in-Err-clause-fits : goal.returns-in-Err-clause-fits
returns-in-Err-clause-fits g c = λ told.
    IfOk-weaker c.refusal.result _ _ (λ form h. subst (λ (o : Option FlacForm). IfSome o (λ (f : FlacForm). FlacFits f (g.S.Source.bytes
    c.args.source.now))) (sym h.0) tt) c.refusal.ensures.verdict

pub returns-in-Err-clause-fault : goal.returns-in-Err-clause-fault
returns-in-Err-clause-fault g c = λ told.
    fails_by c.refusal.result _ _ (λ same. c.in-Err.ensures.fault told (ap Err same)) c.refusal.ensures.fails
