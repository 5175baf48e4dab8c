use Rattle.std.proofs.Common.{◌≡◌, false, refl, sym, ap, subst, ◌∙◌}
use Rattle.std.specs.Result.{IfOk}
use Rattle.player_core.specs.Reports.{failed}
use Rattle.machine_core.specs.Happening.{HasHappened, Happening}
use Rattle.machine_core.specs.State.{MachineState, lacks_room, settings_of}
use Rattle.machine_core.specs.declared.steps.PlayerStep.TheVariants.{Failed}
use Rattle.machine_core.proofs.FullLaws.{full_happens, room_happens}
use Rattle.machine_core.proofs.FullSteps.{happened_as}
use Rattle.machine_core.proofs.KeepingLaws.{keeping_room}
use Rattle.machine_core.proofs.KeptReports.{kept_step_happened}
use Rattle.machine_core.proofs.KeptWork.{can_keep_by, step_keeps, step_leaves}
use Rattle.machine_core.proofs.StepsLawful.{moves_lawful}
use Rattle.machine_core.proofs.machine.Machine.broken.Goals as goal

pub returns-then-lacks_room-clause-ok : goal.returns-then-lacks_room-clause-ok
returns-then-lacks_room-clause-ok c =
    let m = c.args.self.now in
    subst (λ (h : Happening). IfOk c.step_unsaved.result (HasHappened h m c.step_unsaved.new.self))
    (sym (full_happens m (λ settings. failed m.saved.queue.entries settings m.player c.args.ticket c.args.cause)
    (sym c.if-lacks_room.ensures)))
    c.step_unsaved.ensures.ok

pub returns-clause-ok : goal.returns-clause-ok
returns-clause-ok c =
    let m = c.args.self.now in
    let profile : c.profile-profile.result ≡ m.saved.profile =
    c.profile-profile.ensures ∙ ap (λ (n : MachineState). n.saved.profile) c.self.view_is in
    let room : lacks_room m ≡ false = sym c.if-lacks_room.ensures in
    happened_as _ _ (sym (room_happens m (λ settings. failed m.saved.queue.entries settings m.player c.args.ticket c.args.cause) room))
    (kept_step_happened (failed m.saved.queue.entries (settings_of m.saved) m.player c.args.ticket c.args.cause) m c.make_step.new.self
    c.keep_place.new.machine c.make_room.new.self c.make_step.new.work c.keep_place.new.self c.make_step.result c.profile-profile.result _
    c.before-before.result c.deref.result.now (moves_lawful (Failed c.args.ticket c.args.cause) m) c.before-before.ensures.kept
    (c.in_ok-make_room.ensures.cut.ops ∙ c.in_ok-work.ensures.ops) (sym c.if-is_err.ensures.value) c.make_step.ensures
    (profile ∙ sym (keeping_room m room))
    c.before-before.ensures.value c.keep_place.ensures.machine c.keep_place.ensures.ops.ops refl c.deref.ensures.value
    c.changed_since-changed.ensures)

pub keep_place-requires-clause-keeps : goal.keep_place-requires-clause-keeps
keep_place-requires-clause-keeps c =
    can_keep_by c.profile-profile.result c.make_room.new.self c.make_step.new.work
    (step_keeps _ c.args.self.now c.make_step.new.self c.make_room.new.self c.make_step.new.work c.make_step.result
    (sym c.if-is_err.ensures.value) c.make_step.ensures) c.in_ok-make_room.ensures.keeps

pub keep_place-requires-clause-room : goal.keep_place-requires-clause-room
keep_place-requires-clause-room c = λ wide.
    let m = c.args.self.now in
    step_leaves (failed m.saved.queue.entries (settings_of m.saved) m.player c.args.ticket c.args.cause) m c.make_step.new.self
    c.make_room.new.self
    c.make_step.new.work c.make_step.result c.profile-profile.result (sym c.if-is_err.ensures.value) c.make_step.ensures
    (c.in_ok-make_room.ensures.cut.size ∙ c.in_ok-work.ensures.size)
