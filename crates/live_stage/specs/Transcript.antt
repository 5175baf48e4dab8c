-- A run over many events.
use Rattle.std.specs.Prelude.{◌≡◌, ◌⊎◌, ◌↔◌, ◌≤◌, ℕ, ◌+◌, List, [], ◌∷◌, ◌++◌, length, Bool, true, false, Option, Some, None, Result}
use Rattle.std.specs.Prelude.{Ok, Err}
use Rattle.daemon_core.specs.declared.event.Event.{Event}
use Rattle.state_codec.specs.SavedState.{SavedState}
use Rattle.daemon_core.specs.State.{State}
use Rattle.daemon_core.specs.Step.{Stepped, step}
use Rattle.daemon_core.specs.Replay.{Entry, stepped, reply, replay}
use Rattle.live_stage.specs.declared.refusal.LiveError.{LiveError}
use Rattle.live_stage.specs.declared.refusal.LiveError.TheVariants.{Broken, NoMemory, NumbersSpent}
use Rattle.live_stage.specs.Answer.{Answer, IsNumbered, profile_of_step}
use Rattle.live_stage.specs.LiveState.{LiveState}
use Rattle.live_stage.specs.Numbers.{Numbers, FileNumbers, next_numbers, ready_file, recorded, record_bytes, most_bytes, most_records}
use Rattle.live_stage.specs.Numbers.{AreSpent}

-- an event in the history, with the refused place that its answer names
abbrev pub entry_of : Event → Answer → Entry
entry_of event t = record { event = event; refused = t.refused_at }

-- The history that a run adds to an earlier one, the newest entry first: an event is in it where its turn answered, and is not
-- where it was refused.
abbrev pub history_of : List Entry → List Event → List (Result Answer LiveError) → List Entry
history_of earlier [] answers = earlier
history_of earlier (event ∷ events) [] = earlier
history_of earlier (event ∷ events) (Ok t ∷ answers) = history_of (entry_of event t ∷ earlier) events answers
history_of earlier (event ∷ events) (Err e ∷ answers) = history_of earlier events answers

-- the state after a history that began with this state
abbrev pub replayed : State → List Entry → State
replayed s [] = s
replayed s (entry ∷ earlier) = let now = stepped (replayed s earlier) entry in now.after

-- the numbers after a history that began with this state and these numbers
abbrev pub numbers_after : State → Numbers → List Entry → Numbers
numbers_after s first [] = first
numbers_after s first (entry ∷ earlier) =
    let now = stepped (replayed s earlier) entry in next_numbers (numbers_after s first earlier) now.ops

-- how many bytes the records take of a history that began with this state
abbrev pub bytes_after : State → List Entry → ℕ
bytes_after s [] = 0
bytes_after s (entry ∷ earlier) = bytes_after s earlier + (let now = stepped (replayed s earlier) entry in record_bytes (profile_of_step now) now.ops)

-- an answer is that of a step, where the run began so and this history of it went before
pub record IsStepOf {D : Type 0} (first : LiveState D) (earlier : List Entry) (st : Stepped) (t : Answer) : Type 0 where
  pub outputs : t.outputs ≡ st.outputs
  pub closes : t.closes ≡ st.closes
  pub ended : t.ended ≡ st.ended
  pub refused_at : t.refused_at ≡ st.refused_at
  pub numbered : IsNumbered (numbers_after first.state first.numbers earlier) st.ops t

-- each event was answered by the step that the run's history gives, or was refused
abbrev pub IsTranscript : {D : Type 0} → LiveState D → List Entry → List Event → List (Result Answer LiveError) → Type 0
IsTranscript first earlier [] [] = Unit {0}
IsTranscript first earlier [] (answer ∷ answers) = ⊥
IsTranscript first earlier (event ∷ events) [] = ⊥
IsTranscript first earlier (event ∷ events) (Ok t ∷ answers) =
    IsStepOf first earlier (stepped (replayed first.state earlier) (entry_of event t)) t
    × IsTranscript first (entry_of event t ∷ earlier) events answers
IsTranscript first earlier (event ∷ events) (Err e ∷ answers) = IsTranscript first earlier events answers

-- each event that was answered was answered by the reply of the one history of a life that began with what was kept
abbrev pub AreReplies : SavedState → List Entry → List Event → List (Result Answer LiveError) → Type 0
AreReplies kept earlier [] [] = Unit {0}
AreReplies kept earlier [] (answer ∷ answers) = ⊥
AreReplies kept earlier (event ∷ events) [] = ⊥
AreReplies kept earlier (event ∷ events) (Ok t ∷ answers) =
    (t.outputs ≡ reply kept earlier (entry_of event t)) × AreReplies kept (entry_of event t ∷ earlier) events answers
AreReplies kept earlier (event ∷ events) (Err e ∷ answers) = AreReplies kept earlier events answers

-- a stage that is broken, or that this answer breaks
abbrev pub broken_by : Bool → Result Answer LiveError → Bool
broken_by was (Ok t) = was
broken_by was (Err Broken) = true
broken_by was (Err NoMemory) = was
broken_by was (Err NumbersSpent) = was

-- whether a stage is broken after these answers
abbrev pub broken_after : Bool → List (Result Answer LiveError) → Bool
broken_after was [] = was
broken_after was (answer ∷ answers) = broken_after (broken_by was answer) answers

-- How the numbers of the file go on by the answer to an event, before which the state was this. Where memory was refused, the checkpoint
-- that was due may stand or not; after a disk fault nothing is said.
abbrev pub FileGoesOn : State → Event → FileNumbers → Result Answer LiveError → FileNumbers → Type 0
FileGoesOn s event file (Ok t) next =
    let now = step s event t.refused_at in next ≡ recorded (profile_of_step now) (ready_file s.machine.saved file) now.ops
FileGoesOn s event file (Err Broken) next = Unit {0}
FileGoesOn s event file (Err NoMemory) next = (next ≡ file) ⊎ (next ≡ ready_file s.machine.saved file)
FileGoesOn s event file (Err NumbersSpent) next = next ≡ file

-- the numbers are spent, where the run began so, this history of it went before, and the file has these
abbrev pub AreNumbersSpent : {D : Type 0} → LiveState D → List Entry → FileNumbers → Type 0
AreNumbersSpent first earlier file = AreSpent (numbers_after first.state first.numbers earlier) file

-- A stage that isn't broken refuses an event for want of numbers exactly where these are spent. The file has these numbers at first,
-- and those at the end.
abbrev pub SpendsNumbers : {D : Type 0} → LiveState D → List Entry → Bool → FileNumbers → FileNumbers → List Event
    → List (Result Answer LiveError) → Type 0
SpendsNumbers first earlier was file last [] answers = last ≡ file
SpendsNumbers first earlier was file last (event ∷ events) [] = last ≡ file
SpendsNumbers first earlier was file last (event ∷ events) (answer ∷ answers) =
    (was ≡ false → ((answer ≡ Err NumbersSpent) ↔ AreNumbersSpent first earlier file))
    × ((next : FileNumbers) × FileGoesOn (replayed first.state earlier) event file answer next
    × SpendsNumbers first (history_of earlier (event ∷ []) (answer ∷ [])) (broken_by was answer) next last events answers)

-- The records of these answers keep to the bounds of the file that is in use, so no checkpoint is due before any of the events.
pub record HasRoomFor {D : Type 0} (first : LiveState D) (events : List Event) (answers : List (Result Answer LiveError)) : Type 0 where
  pub records : first.file.records + length events ≤ most_records first.file.layout first.file.snapshot_len
  pub bytes : first.file.bytes + bytes_after first.state (history_of [] events answers) ≤ most_bytes first.file.snapshot_len

-- from the first disk fault on, or from the start where the stage was broken, each answer is `Broken`
abbrev pub StaysBroken : Bool → List (Result Answer LiveError) → Type 0
StaysBroken was [] = Unit {0}
StaysBroken was (answer ∷ answers) = (was ≡ true → answer ≡ Err Broken) × StaysBroken (broken_by was answer) answers

-- the event in which the first disk fault came
abbrev pub first_broken : List Event → List (Result Answer LiveError) → Option Event
first_broken [] answers = None
first_broken (event ∷ events) [] = None
first_broken (event ∷ events) (Ok t ∷ answers) = first_broken events answers
first_broken (event ∷ events) (Err Broken ∷ answers) = Some event
first_broken (event ∷ events) (Err NoMemory ∷ answers) = first_broken events answers
first_broken (event ∷ events) (Err NumbersSpent ∷ answers) = first_broken events answers

-- the history that holds all that was given out, and on top of it the event in which the first disk fault came
pub record HoldsTheBroken (events : List Event) (answers : List (Result Answer LiveError)) (whole : List Entry) : Type 0 where
  pub event : Event
  pub refused : Option ℕ
  pub first : first_broken events answers ≡ Some event
  pub on_top : whole ≡ record { event = event; refused = refused } ∷ history_of [] events answers

-- The whole history of a run: it holds all that was given out, and at most one event more, of which no answer was given: the one
-- in which the first disk fault came.
abbrev pub IsWhole : List Event → List (Result Answer LiveError) → List Entry → Type 0
IsWhole events answers whole = (whole ≡ history_of [] events answers) ⊎ HoldsTheBroken events answers whole

-- a restart finds the state after the whole history of the run, from this state on
pub record FindsWhole (s : State) (events : List Event) (answers : List (Result Answer LiveError)) (found : Option SavedState)
    : Type 0 where
  pub whole : List Entry
  pub is_whole : IsWhole events answers whole
  pub finds : let now = replayed s whole in found ≡ Some now.machine.saved

-- a restart finds the state after a prefix of the history of the run, from this state on: the oldest entries, in order, and none in part
pub record FindsPrefix (s : State) (events : List Event) (answers : List (Result Answer LiveError)) (found : Option SavedState)
    : Type 0 where
  pub whole : List Entry
  pub is_whole : IsWhole events answers whole
  pub later : List Entry
  pub prefix : List Entry
  pub parts : whole ≡ later ++ prefix
  pub finds : let now = replayed s prefix in found ≡ Some now.machine.saved

-- The answers of a run are those of the steps of its one history, in order, of the events that were answered; and the stage at its end
-- has counted these, and has the state after them.
pub record IsRun {D : Type 0} (first last : LiveState D) (events : List Event) (answers : List (Result Answer LiveError))
    : Type 0 where
  pub transcript : IsTranscript first [] events answers
  pub state : last.is_broken ≡ false → last.state ≡ replayed first.state (history_of [] events answers)
  pub event : last.numbers.event ≡ first.numbers.event + length (history_of [] events answers)
  pub numbers : last.is_broken ≡ false → last.numbers ≡ numbers_after first.state first.numbers (history_of [] events answers)

-- From the first disk fault on each answer is `Broken`, and `NumbersSpent` comes exactly where the numbers are spent.
pub record RunRefuses {D : Type 0} (first last : LiveState D) (events : List Event) (answers : List (Result Answer LiveError))
    : Type 0 where
  pub broken : StaysBroken first.is_broken answers
  pub is_broken : last.is_broken ≡ broken_after first.is_broken answers
  pub numbers_spent : SpendsNumbers first [] first.is_broken first.file last.file events answers

-- in a life that began with what was kept, each answer is the reply of its one history, and the state its replay
pub record IsOfOneLife {D : Type 0} (first last : LiveState D) (events : List Event) (answers : List (Result Answer LiveError))
    (kept : SavedState) : Type 0 where
  pub replies : AreReplies kept [] events answers
  pub state : last.is_broken ≡ false → last.state ≡ replay kept (history_of [] events answers)
