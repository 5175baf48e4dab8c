use Rattle.std.proofs.Common.{◌≡◌, subst, ap, ◌∙◌}
use Rattle.std.specs.Prelude.{Result, Ok, IfOk}
use Rattle.play_queue.specs.Queue.{QueueState}
use Rattle.player_core.specs.Answered.{OnStep}
use Rattle.player_core.specs.Player.{Step}
use Rattle.player_core.specs.Refusal.{AnswersIfMemory, refusal_of}
use Rattle.player_core.specs.declared.changes.Changes.{Changes}
use Rattle.player_core.specs.declared.refusal.PlayerError.{PlayerError}
use Rattle.machine_core.specs.State.{MachineState}
use Rattle.machine_core.specs.Steps.{step_in, step_of}
use Rattle.machine_core.proofs.StepsDone.{bytes_enough, bytes_exact}
use Rattle.machine_core.proofs.machine.Machine.bytes_for.Goals as goal

pub returns-in-Ok-clause-enough : goal.returns-in-Ok-clause-enough
returns-in-Ok-clause-enough c =
    let m = c.args.self.now in
    let entries = c.entries-entries.ensures.entries ∙ ap (λ (q : QueueState). q.entries) c.queue.ensures
    ∙ ap (λ (n : MachineState). n.saved.queue.entries) c.self.view_is in
    let player = c.in_ok-player.ensures ∙ ap (λ (n : MachineState). n.player) c.self.view_is in
    let same : step_of c.args.step c.entries-entries.result.now c.settings-settings.result c.in_ok-player.player ≡ step_in c.args.step m =
    λ i. step_of c.args.step (entries i) (c.settings-settings.ensures i) (player i) in
    bytes_enough (step_in c.args.step m) m.saved.profile c.take_step.new.player c.in-Ok.changes c.bytes_of.result
    (subst (λ (r : Result Step PlayerError). IfOk r (λ (made : Step). OnStep made c.take_step.new.player (Ok c.in-Ok.changes))) same
    c.in-Ok.ensures.ok) c.bytes_of.ensures

pub returns-in-Ok-clause-exact : goal.returns-in-Ok-clause-exact
returns-in-Ok-clause-exact c =
    let m = c.args.self.now in
    let entries = c.entries-entries.ensures.entries ∙ ap (λ (q : QueueState). q.entries) c.queue.ensures
    ∙ ap (λ (n : MachineState). n.saved.queue.entries) c.self.view_is in
    let player = c.in_ok-player.ensures ∙ ap (λ (n : MachineState). n.player) c.self.view_is in
    let same : step_of c.args.step c.entries-entries.result.now c.settings-settings.result c.in_ok-player.player ≡ step_in c.args.step m =
    λ i. step_of c.args.step (entries i) (c.settings-settings.ensures i) (player i) in
    λ above. bytes_exact (step_in c.args.step m) m.saved.profile c.take_step.new.player c.in-Ok.changes c.bytes_of.result
    (subst (λ (r : Result Step PlayerError). AnswersIfMemory {T = Changes} (refusal_of r) (Ok c.in-Ok.changes)) same c.in-Ok.ensures.answer)
    (subst (λ (r : Result Step PlayerError). IfOk r (λ (made : Step). OnStep made c.take_step.new.player (Ok c.in-Ok.changes))) same
    c.in-Ok.ensures.ok) c.bytes_of.ensures
