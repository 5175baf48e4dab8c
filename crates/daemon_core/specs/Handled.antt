-- What the code of an event does before clients that wait are told.
use Rattle.std.specs.Prelude.{◌≡◌, ◌≤◌, ℕ, List, [], None, false, vec_len}
use Rattle.idle_masks.specs.Subsystems.{none}
use Rattle.machine_core.specs.declared.happened.Happened.{Happened}
use Rattle.daemon_core.specs.Parts.{state_of}
use Rattle.daemon_core.specs.Room.{IsReadyToTell}
use Rattle.daemon_core.specs.Session.{Acted}
use Rattle.daemon_core.specs.declared.handled.Handled.{Handled}
use Rattle.daemon_core.specs.declared.outcome.Output.{Output}
use Rattle.daemon_core.specs.declared.parts.CoreParts.{CoreParts}

-- it did this, and left room for what those clients are told
pub record Does (a : Acted) (after : CoreParts) (handled : Handled) : Type 0 where
  pub state : state_of after ≡ a.after
  pub answer : handled.outcome.outputs.items ≡ a.answer
  pub closes : handled.outcome.closes.items ≡ a.closes
  pub ops : handled.outcome.ops.items ≡ a.ops
  pub refused_at : handled.outcome.refused_at ≡ a.refused_at
  pub looks : handled.outcome.looks ≡ a.looks
  pub ended : handled.outcome.ended ≡ a.ended
  pub changed : handled.changed ≡ a.changed
  pub notified : after.talks.notified.items ≡ a.notified
  pub one : vec_len handled.outcome.outputs ≤ 1
  pub ready : IsReadyToTell after

-- nothing is done, but there may be an output and clients that are closed
pub record IsNothingBut (given : List Output) (closed : List ℕ) (handled : Handled) : Type 0 where
  pub answer : handled.outcome.outputs.items ≡ given
  pub one : vec_len handled.outcome.outputs ≤ 1
  pub closes : handled.outcome.closes.items ≡ closed
  pub ops : handled.outcome.ops.items ≡ []
  pub refused_at : handled.outcome.refused_at ≡ None
  pub looks : handled.outcome.looks ≡ 0
  pub ended : handled.outcome.ended ≡ false
  pub changed : handled.changed ≡ none

-- what an event of the player or of a scan did, and no more
pub record IsOf (happened : Happened) (handled : Handled) : Type 0 where
  pub answer : handled.outcome.outputs.items ≡ []
  pub one : vec_len handled.outcome.outputs ≤ 1
  pub closes : handled.outcome.closes.items ≡ []
  pub ops : handled.outcome.ops.items ≡ happened.ops.items
  pub refused_at : handled.outcome.refused_at ≡ None
  pub looks : handled.outcome.looks ≡ 0
  pub ended : handled.outcome.ended ≡ false
  pub changed : handled.changed ≡ happened.changed
