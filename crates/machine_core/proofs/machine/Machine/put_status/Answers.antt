use Rattle.std.proofs.Common.{ap, sym, ◌∙◌, length}
use Rattle.std.specs.Option.{option_and_then}
use Rattle.command_text.specs.AnswerStatus.{current_lines, played_lines}
use Rattle.command_text.proofs.Adding.{adds_same}
use Rattle.command_text.specs.declared.answer.status.StatusLines.{StatusLines}
use Rattle.player_core.specs.declared.shown.Shown.{Shown}
use Rattle.machine_core.specs.Settings.{running_job, song_at, status_of}
use Rattle.machine_core.specs.State.{MachineState}
use Rattle.machine_core.proofs.StatusShown.{lent_error, same_status}
use Rattle.machine_core.proofs.machine.Machine.put_status.Goals as goal

pub returns : goal.returns
returns c =
    let m = c.args.self.now in
    let status : StatusLines = record {
      volume = c.volume.result;
      options = c.options.result;
      version = c.version.result;
      length = c.len.result;
      state = c.state.result;
      current = c.song_shown.result;
      next = c.args.shown.next;
      job = c.running_job.result;
      error = c.error.result;
      is_unread = c.self.inside.clock.is_unread;
    } in
    let is = c.self.view_is in
    adds_same _ _ _ _ _ c.write_status.ensures
    (same_status status (status_of m)
    (c.volume.ensures ∙ ap (λ (n : MachineState). n.saved.volume) is)
    (c.options.ensures ∙ ap (λ (n : MachineState). n.saved.options) is)
    (c.version.ensures.version ∙ ap (λ queue. queue.version) c.queue.ensures ∙ ap (λ (n : MachineState). n.saved.queue.version) is)
    (c.len.ensures ∙ ap (λ queue. length queue.entries) c.queue-2.ensures ∙ ap (λ (n : MachineState). length n.saved.queue.entries) is)
    (c.state.ensures ∙ ap (λ (n : MachineState). n.player.state) is)
    (ap (λ (x : Shown). x.next) c.requires)
    (c.running_job.ensures ∙ ap (λ (n : MachineState). running_job n.job) is)
    (ap (λ (n : MachineState). n.clock.is_unread) is)
    (c.song_shown.ensures.place ∙ ap (λ (x : Shown). current_lines (option_and_then (song_at m) x.current)) c.requires)
    (c.song_shown.ensures.played ∙ ap (λ (x : Shown). played_lines (option_and_then (song_at m) x.current)) c.requires)
    (c.error.ensures ∙ ap (λ (n : MachineState). n.player.error) is ∙ sym (lent_error m.player.error)))
