use Rattle.std.proofs.Common.{◌≡◌, ℕ, ap, subst, ◌∙◌}
use Rattle.profile.specs.declared.profile.Profile.{Profile}
use Rattle.std.specs.Prelude.{IfErr}
use Rattle.machine_core.specs.Lists.{replaces}
use Rattle.machine_core.specs.State.{MachineState}
use Rattle.machine_core.specs.Work.{IsRefusalOf}
use Rattle.machine_core.proofs.Edits.{refused_failed}
use Rattle.machine_core.proofs.Replacing.{too_large}
use Rattle.machine_core.proofs.machine.Machine.replace_songs.Goals as goal

pub returns-in_err-would_replace : goal.returns-in_err-would_replace
returns-in_err-would_replace c =
    refused_failed _ c.args.self.now c.args.work.now c.in_err-would_replace.field-0.0 c.from_residual.result
    (subst (λ name. (profile : Profile) (size : ℕ) → IsRefusalOf profile (replaces name c.args.self.now) size
    c.in_err-would_replace.field-0.0) c.as_str.ensures.text
    c.in_err-would_replace.ensures.refused) c.from_residual.ensures.1

pub returns-in_err-admit_both : goal.returns-in_err-admit_both
returns-in_err-admit_both c =
    let profile : c.profile-profile.result ≡ c.args.self.now.saved.profile =
    c.profile-profile.ensures ∙ ap (λ (n : MachineState). n.saved.profile) c.self.view_is in
    too_large c.profile-profile.result c.args.name.now c.as_str.result.now c.in_ok-try_clone.field-0 c.in_ok-try_clone-2.field-0 c.args.self.now
    c.in_ok-would_replace.field-0 c.args.work.now c.admit_both.new.self c.in_err-admit_both.field-0.0
    c.from_residual-in_err-admit_both.result profile c.as_str.ensures.text c.if-not-branch.false c.in_ok-would_replace.ensures.changes
    c.in_ok-try_clone.ensures c.in_ok-try_clone-2.ensures c.in_err-admit_both.ensures.nothing c.in_err-admit_both.ensures.refused
    c.from_residual-in_err-admit_both.ensures.1
