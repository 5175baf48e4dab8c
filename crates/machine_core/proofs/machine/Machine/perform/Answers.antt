use Rattle.std.proofs.Common.{◌≡◌, ℕ, true, false, ap, subst, ◌∙◌}
use Rattle.profile.specs.declared.profile.Profile.{Profile}
use Rattle.machine_core.specs.Command.{meaning}
use Rattle.machine_core.specs.Looks.{looked, looks_of, may_look}
use Rattle.machine_core.specs.Room.{under_room}
use Rattle.machine_core.specs.State.{MachineState}
use Rattle.machine_core.proofs.KeptWork.{looks_refused, looks_within}
use Rattle.machine_core.proofs.machine.Machine.perform.Goals as goal

pub returns-clause-performs : goal.returns-clause-performs
returns-clause-performs c =
    let m = c.args.self.now in
    let under : c.profile.result ≡ m.saved.profile = c.profile.ensures ∙ ap (λ (n : MachineState). n.saved.profile) c.self.view_is in
    looks_within m.saved.profile c.args.looks.now (looks_of c.args.command m) (under_room m (meaning c.args.mask c.args.command m)) m
    c.perform_kept.new.self c.args.work.now c.perform_kept.new.work c.perform_kept.result
    (subst (λ (p : Profile). may_look p c.args.looks.now (looks_of c.args.command m) ≡ true) under
    (subst (λ (n : ℕ). may_look c.profile.result c.args.looks.now n ≡ true) c.looks_of.ensures c.in_ok-take.ensures.ok))
    c.perform_kept.ensures.performs

pub returns-in_err-take-clause-performs : goal.returns-in_err-take-clause-performs
returns-in_err-take-clause-performs c =
    let m = c.args.self.now in
    let under : c.profile.result ≡ m.saved.profile = c.profile.ensures ∙ ap (λ (n : MachineState). n.saved.profile) c.self.view_is in
    let refused = c.in_err-take.ensures.refused in
    looks_refused m.saved.profile c.args.looks.now (looks_of c.args.command m) (under_room m (meaning c.args.mask c.args.command m)) m
    c.args.work.now c.from_residual.result c.in_err-take.field-0.0
    (subst (λ (p : Profile). may_look p c.args.looks.now (looks_of c.args.command m) ≡ false) under
    (subst (λ (n : ℕ). may_look c.profile.result c.args.looks.now n ≡ false) c.looks_of.ensures refused.1))
    refused.0 c.from_residual.ensures.1

pub returns-clause-looks : goal.returns-clause-looks
returns-clause-looks c =
    let m = c.args.self.now in
    let under : c.profile.result ≡ m.saved.profile = c.profile.ensures ∙ ap (λ (n : MachineState). n.saved.profile) c.self.view_is in
    c.in_ok-take.ensures.looks ∙ (λ i. looked (under i) c.args.looks.now (c.looks_of.ensures i))

pub returns-in_err-take-clause-looks : goal.returns-in_err-take-clause-looks
returns-in_err-take-clause-looks c =
    let m = c.args.self.now in
    let under : c.profile.result ≡ m.saved.profile = c.profile.ensures ∙ ap (λ (n : MachineState). n.saved.profile) c.self.view_is in
    c.in_err-take.ensures.looks ∙ (λ i. looked (under i) c.args.looks.now (c.looks_of.ensures i))
