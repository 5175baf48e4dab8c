-- What a step answers.
use Rattle.std.specs.Prelude.{◌≡◌, ℕ, ◌<◌, length, IfSome}
use Rattle.command_text.specs.declared.request.Request.{Request}
use Rattle.command_text.specs.declared.request.Request.TheVariants.{Single, List as CommandList, OkList, Noidle}
use Rattle.daemon_core.specs.declared.event.Event.{Event}
use Rattle.daemon_core.specs.declared.event.Event.TheVariants as events
use Rattle.daemon_core.specs.declared.outcome.Outcome.{Outcome}
use Rattle.daemon_core.specs.State.{State}
use Rattle.daemon_core.specs.Step.{step}

-- how many commands an event has
abbrev pub commands_in : Request → ℕ
commands_in (Single line) = 1
commands_in (CommandList lines) = length lines
commands_in (OkList lines) = length lines
commands_in Noidle = 0

abbrev pub command_count : Event → ℕ
command_count (events.Connect c) = 0
command_count (events.Request c request) = commands_in request
command_count (events.Gone c) = 0
command_count (events.Fed ticket frames) = 0
command_count (events.Ended ticket) = 0
command_count (events.Broken ticket cause) = 0
command_count (events.Batch job changes) = 0
command_count (events.Missing job songs) = 0
command_count (events.ScanDone job) = 0
command_count (events.Clock time) = 0
command_count (events.Keep ticket) = 0
command_count (events.Resume plays) = 0
command_count (events.Room is_there) = 0
command_count (events.Picture c told) = 0

-- The answer and the state after are those of the step, with memory refused at the command that the answer names, or at none.
-- That command is one of the event's, and the step reached it: where it ended earlier the answer names none.
pub record IsOutcome (s : State) (event : Event) (o : Outcome) (t : State) : Type 0 where
  pub after : t ≡ (step s event o.refused_at).after
  pub outputs : o.outputs.items ≡ (step s event o.refused_at).outputs
  pub closes : o.closes.items ≡ (step s event o.refused_at).closes
  pub ops : o.ops.items ≡ (step s event o.refused_at).ops
  pub ended : o.ended ≡ (step s event o.refused_at).ended
  pub refused_at : o.refused_at ≡ (step s event o.refused_at).refused_at
  pub looks : o.looks ≡ (step s event o.refused_at).looks
  pub place : IfSome o.refused_at (λ place. place < command_count event)
