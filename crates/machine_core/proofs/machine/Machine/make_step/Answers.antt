use Rattle.std.proofs.Common.{◌≡◌, length, ap, subst, ◌∙◌}
use Rattle.profile.specs.declared.profile.Profile.{Profile}
use Rattle.state_codec.specs.Spelling.{ops_bytes}
use Rattle.machine_core.specs.State.{MachineState}
use Rattle.machine_core.specs.Steps.{step_ops}
use Rattle.machine_core.specs.Work.{AddsOps}
use Rattle.machine_core.proofs.StepsDone.{made_went, room_made}
use Rattle.machine_core.proofs.machine.Machine.make_step.Goals as goal

pub push_changes-requires-clause-room : goal.push_changes-requires-clause-room
push_changes-requires-clause-room c =
    let profile : c.profile-profile.result ≡ c.args.self.now.saved.profile =
    c.profile-profile.ensures ∙ ap (λ (n : MachineState). n.saved.profile) c.self.view_is in
    room_made _ _ c.args.self.now c.step.new.self c.admit_step.new.work c.in-Ok.changes c.in-Ok.ensures.answer c.in-Ok.ensures.ok
    c.in_ok-admit_step.ensures.ok profile

pub returns : goal.returns
returns c =
    let profile : c.profile-profile.result ≡ c.args.self.now.saved.profile =
    c.profile-profile.ensures ∙ ap (λ (n : MachineState). n.saved.profile) c.self.view_is in
    let ops = step_ops c.in-Ok.changes in
    made_went _ c.args.self.now c.step.new.self c.args.work.now c.admit_step.new.work c.push_changes.new.self c.in-Ok.changes
    c.in-Ok.ensures.answer c.in-Ok.ensures.ok c.in_ok-admit_step.ensures.nothing c.in_ok-admit_step.ensures.same
    (subst (λ (p : Profile). AddsOps ops (length (ops_bytes p ops)) c.admit_step.new.work c.push_changes.new.self) profile
    c.push_changes.ensures.ops) c.push_changes.ensures.text c.push_changes.ensures.keeps c.requires
