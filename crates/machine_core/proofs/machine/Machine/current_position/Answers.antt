use Rattle.std.proofs.Common.{◌≡◌, ◌==◌, Option, Some, sym, ap, ◌∙◌}
use Rattle.std.specs.Prelude.{ℕ, position}
use Rattle.play_queue.specs.Queue.{QueueState}
use Rattle.play_queue.specs.declared.entry.Entry.{Entry}
use Rattle.player_core.specs.Choice.{placed}
use Rattle.player_core.specs.Shown.{shown_at}
use Rattle.player_core.specs.declared.shown.Shown.{Shown}
use Rattle.machine_core.specs.State.{MachineState, settings_of}
use Rattle.machine_core.proofs.CurrentPlace.{stands_there}
use Rattle.machine_core.proofs.machine.Machine.current_position.Goals as goal

pub returns : goal.returns
returns c =
    let m = c.args.self.now in
    let id = c.in_ok-id.id in
    let entries = m.saved.queue.entries in
    let settings = settings_of m.saved in
    let queue : c.queue.result.now ≡ m.saved.queue = c.queue.ensures ∙ ap (λ (n : MachineState). n.saved.queue) c.self.view_is in
    let current : m.player.current ≡ Some id =
    sym (c.current.ensures ∙ ap (λ (n : MachineState). n.player.current) c.self.view_is) ∙ c.in_ok-id.was in
    c.pos_of.ensures.found ∙ ap (λ (q : QueueState). position (λ (entry : Entry). entry.id == id) q.entries) queue
    ∙ sym (ap (λ (o : Option ℕ). (let s : Shown = shown_at entries settings m.player.played (placed entries o) in s.current)) current
    ∙ stands_there entries settings m.player.played id (position (λ (entry : Entry). entry.id == id) entries))
