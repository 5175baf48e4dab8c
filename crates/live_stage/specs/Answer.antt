-- What a turn answers.
use Rattle.std.specs.Prelude.{◌≡◌, ◌⊎◌, ℕ, ◌+◌, min, List, [], Option, Some, Bool, is_some, if◌then◌else◌}
use Rattle.profile.specs.declared.profile.Profile.{Profile}
use Rattle.state_codec.specs.declared.op.Op.{Op}
use Rattle.state_codec.specs.SavedState.{SavedState}
use Rattle.daemon_core.specs.declared.event.Event.{Event}
use Rattle.daemon_core.specs.declared.outcome.Output.{Output}
use Rattle.daemon_core.specs.State.{State}
use Rattle.daemon_core.specs.Step.{Stepped, step}
use Rattle.live_stage.specs.declared.turn.Receipt.{Receipt}
use Rattle.live_stage.specs.LiveState.{LiveState}
use Rattle.live_stage.specs.Numbers.{Numbers, FileNumbers, greatest, next_numbers, record_number, ready_file, ready_work, recorded}

-- What is given out for an event, its number, its receipt, and, for contracts alone, the event and the state before it.
pub record Answer : Type 0 where
  pub outputs : List Output
  pub closes : List ℕ
  pub ended : Bool
  pub refused_at : Option ℕ
  pub event : ℕ
  pub receipt : Receipt
  pub asked : Event
  pub before : State

-- the outputs of an answer are those of the step of its own event
abbrev pub IsOfItsEvent : Answer → Type 0
IsOfItsEvent t = let now = step t.before t.asked t.refused_at in t.outputs ≡ now.outputs

-- how much the event of an answer adds to the work of the records: what it looked at, if it made one
abbrev pub answer_work : Answer → ℕ
answer_work t = if is_some t.receipt.number then (let now = step t.before t.asked t.refused_at in now.looks) else 0

-- an answer and its receipt bear the numbers that follow on these
pub record IsNumbered (before : Numbers) (ops : List Op) (t : Answer) : Type 0 where
  pub event : t.event ≡ before.event + 1
  pub receipt_event : t.receipt.event ≡ before.event + 1
  pub receipt_number : t.receipt.number ≡ record_number before.last_record ops

-- the profile by which the record of a step is spelled; no event changes it
abbrev pub profile_of_step : Stepped → Profile
profile_of_step st = st.after.machine.saved.profile

-- The state after a turn and its answer are those of a step, and its record, if it made one, stands in the file of these numbers, before
-- which the events of its records had looked at so much.
pub record IsTurnOf {D : Type 0} (st : Stepped) (before : Numbers) (of_file : FileNumbers) (of_work : ℕ) (t : Answer) (after : LiveState D)
    : Type 0 where
  pub state : after.state ≡ st.after
  pub outputs : t.outputs ≡ st.outputs
  pub closes : t.closes ≡ st.closes
  pub ended : t.ended ≡ st.ended
  pub refused_at : t.refused_at ≡ st.refused_at
  pub numbered : IsNumbered before st.ops t
  pub numbers : after.numbers ≡ next_numbers before st.ops
  pub file : after.file ≡ recorded (profile_of_step st) of_file st.ops
  pub work : after.work ≡ min (of_work + answer_work t) greatest

-- An event was handled by its step, where memory was refused at the place that its answer names. Its record went to the file that was
-- in use.
abbrev pub IsHandled : {D : Type 0} → LiveState D → Event → Answer → LiveState D → Type 0
IsHandled before event t after = IsTurnOf (step before.state event t.refused_at) before.numbers before.file before.work t after

-- a turn is the step of its event, and its record goes to the file that is ready for it
abbrev pub IsTurn : {D : Type 0} → LiveState D → Event → Answer → LiveState D → Type 0
IsTurn before event t after = IsTurnOf (step before.state event t.refused_at) before.numbers
    (ready_file before.state.machine.saved before.file) (ready_work before.file before.work) t after

-- a restart finds the saved state from before an event, or from after it, where memory was refused at this place
abbrev pub IsBeforeOrAfter : State → Event → Option ℕ → Option SavedState → Type 0
IsBeforeOrAfter s event k found = (found ≡ Some s.machine.saved) ⊎ (let now = step s event k in found ≡ Some now.after.machine.saved)

-- the step of an event, refused at the place that its answer names, makes no op
abbrev pub HasNoOps : {D : Type 0} → LiveState D → Event → Answer → Type 0
HasNoOps before event t = let now = step before.state event t.refused_at in now.ops ≡ []
