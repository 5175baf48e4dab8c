-- Events that are handled as a group, whose records reach the disk together.
use Rattle.std.specs.Prelude.{◌≡◌, ◌≢◌, ◌⊎◌, ◌≤◌, ℕ, ◌+◌, ◌==◌, List, [], ◌∷◌, ◌++◌, length, map, min, sum_by}
use Rattle.std.specs.Prelude.{Bool, true, false, not, ◌&&◌, ◌||◌}
use Rattle.std.specs.Prelude.{Option, Some, Result, Ok, Err, nat_le, if◌then◌else◌}
use Rattle.std.specs.List.{AllByRecursion, list_any}
use Rattle.disk_model.specs.History.{Change}
use Rattle.play_journal.specs.Content.{Content, with_records}
use Rattle.play_journal.specs.File.{records_len}
use Rattle.profile.specs.declared.profile.Profile.{Profile}
use Rattle.state_codec.specs.declared.op.Op.{Op}
use Rattle.state_codec.specs.SavedState.{SavedState}
use Rattle.state_codec.specs.Spelling.{body_bytes}
use Rattle.machine_core.specs.Looks.{max_looks}
use Rattle.daemon_core.specs.declared.event.Event.{Event}
use Rattle.daemon_core.specs.State.{State}
use Rattle.daemon_core.specs.Replay.{Entry, stepped}
use Rattle.daemon_core.specs.Step.{Stepped, step}
use Rattle.live_stage.specs.declared.turns.RefusedTurns.{RefusedTurns}
use Rattle.live_stage.specs.declared.refusal.LiveError.{LiveError}
use Rattle.live_stage.specs.declared.refusal.LiveError.TheVariants.{Broken}
use Rattle.live_stage.specs.Answer.{Answer, answer_work, profile_of_step}
use Rattle.live_stage.specs.LiveState.{LiveState}
use Rattle.live_stage.specs.Numbers.{Numbers, FileNumbers, greatest, is_due, longest_record, most_bytes, most_records, next_file}
use Rattle.live_stage.specs.Transcript.{entry_of, history_of, replayed, numbers_after, IsTranscript}
use Rattle.live_stage.specs.Turns.{IsStored, as_snapshot}

-- ---- answers

-- the events that these answers are of, in order
abbrev pub asked_by : List Answer → List Event
asked_by turns = map (λ t. t.asked) turns

-- the history that these answers make, the newest entry first
abbrev pub history_in : List Answer → List Entry
history_in turns = history_of [] (asked_by turns) (map Ok turns)

-- each answer bears the state before its event, where a run began with this state and this history of it went before
abbrev pub BearTheirStates : State → List Entry → List Answer → Type 0
BearTheirStates s earlier [] = Unit {0}
BearTheirStates s earlier (t ∷ turns) = (t.before ≡ replayed s earlier) × BearTheirStates s (entry_of t.asked t ∷ earlier) turns

-- Whether a checkpoint is made before the events that these answers are of, where the file has these numbers: one is due, and there are
-- answers.
abbrev pub makes_checkpoint : FileNumbers → List Answer → Bool
makes_checkpoint file [] = false
makes_checkpoint file (t ∷ turns) = is_due file

-- ---- records

-- the body of the record of these ops, if there are any
abbrev pub body_of : Profile → List Op → List (List ℕ)
body_of profile [] = []
body_of profile (op ∷ ops) = body_bytes profile (op ∷ ops) ∷ []

-- the body of the record of a step, if it makes one
abbrev pub body_of_step : Stepped → List (List ℕ)
body_of_step st = body_of (profile_of_step st) st.ops

-- the bodies of the records of a history that began with this state, the oldest first
abbrev pub bodies_after : State → List Entry → List (List ℕ)
bodies_after s [] = []
bodies_after s (entry ∷ earlier) = bodies_after s earlier ++ body_of_step (stepped (replayed s earlier) entry)

-- the numbers of a file with these records more; bytes are counted up to the greatest number, which no honest disk comes to
abbrev pub file_with : FileNumbers → List (List ℕ) → FileNumbers
file_with file [] = file
file_with file (body ∷ bodies) = record file {
  records = file.records + length (body ∷ bodies);
  bytes = min (file.bytes + records_len (body ∷ bodies)) greatest;
}

-- ---- where a group ends

-- the most bytes of answers behind which another event is taken, 1 MiB
abbrev pub most_answer_bytes : ℕ
most_answer_bytes = 1048576

-- how many bytes an answer gives out
abbrev pub answer_bytes : Answer → ℕ
answer_bytes t = sum_by (λ o. length o.bytes) t.outputs

-- The most that the events of a group look at behind which another event is taken: as much as is counted of one request. So a group looks
-- at twice as much at most, as it is counted, and one of 64 cheap requests doesn't come to it.
abbrev pub most_looks : ℕ
most_looks = max_looks

-- how much the event of an answer looked at, in the state before it
abbrev pub answer_looks : Answer → ℕ
answer_looks t = let now = step t.before t.asked t.refused_at in now.looks

-- whether the last event or the last record has the greatest number
abbrev pub are_last : Numbers → Bool
are_last numbers = numbers.event == greatest || numbers.last_record == greatest

-- Whether another event is taken where a group has come to these numbers of a file and of the stage, its records take so many bytes, its
-- answers give out so many, its events looked at so much, and one of them ended the daemon or none.
abbrev pub may_follow : FileNumbers → Numbers → ℕ → ℕ → ℕ → Bool → Bool
may_follow file numbers bytes given_out looks has_ended =
    not (is_due file) && not (are_last numbers) && nat_le bytes longest_record && nat_le given_out most_answer_bytes
    && nat_le looks most_looks && not has_ended

-- The first event of a group is taken, and another behind these answers if it may follow on them, where the group began with this state,
-- these numbers and this file.
abbrev pub takes_more : State → Numbers → FileNumbers → List Answer → Bool
takes_more s first file [] = true
takes_more s first file (t ∷ turns) =
    let whole = history_in (t ∷ turns) in
    let bodies = bodies_after s whole in
    may_follow (file_with file bodies) (numbers_after s first whole) (records_len bodies) (sum_by answer_bytes (t ∷ turns))
    (sum_by answer_looks (t ∷ turns)) (list_any (λ a. a.ended) (t ∷ turns))

-- Behind each front of these answers another event was taken, and so it might be. So many went before.
abbrev pub TookEach : (List Answer → Bool) → List Answer → List Answer → Type 0
TookEach takes before [] = Unit {0}
TookEach takes before (t ∷ turns) = (takes before ≡ true) × TookEach takes (before ++ t ∷ []) turns

-- the file to which the records of these answers went
abbrev pub group_file : {D : Type 0} → LiveState D → List Answer → FileNumbers
group_file old turns = if makes_checkpoint old.file turns then next_file old.state.machine.saved old.file else old.file

-- how much the events of the records in it looked at
abbrev pub group_work : {D : Type 0} → LiveState D → List Answer → ℕ
group_work old turns = if makes_checkpoint old.file turns then 0 else old.work

-- what the files say when the records of these answers are written
abbrev pub group_content : {D : Type 0} → LiveState D → List Answer → Content
group_content old turns = if makes_checkpoint old.file turns then as_snapshot old else old.content

-- whether a group of this stage takes another event behind these answers
abbrev pub group_takes : {D : Type 0} → LiveState D → List Answer → List Answer → Bool
group_takes old turns front = takes_more old.state old.numbers (group_file old turns) front

-- the events: those of the answers in order, the one that found no memory, if one did, and the rest, which weren't begun
abbrev pub AreParted : List Event → List Answer → Bool → List Event → Type 0
AreParted events turns false rest = events ≡ asked_by turns ++ rest
AreParted events turns true rest = (event : Event) × (events ≡ asked_by turns ++ event ∷ rest)

-- Events are taken in order, as long as they may be, until one finds no memory: that isn't the first one.
pub record EndsThere {D : Type 0} (old : LiveState D) (events : List Event) (turns : List Answer) (is_refused : Bool) (rest : List Event)
    : Type 0 where
  pub parted : AreParted events turns is_refused rest
  pub took : TookEach (group_takes old turns) [] turns
  pub refused : is_refused ≡ true → (turns ≢ []) × (group_takes old turns turns ≡ true)
  pub full : is_refused ≡ false → rest ≢ [] → group_takes old turns turns ≡ false

-- What a refusal refuses is a front of the events: the first one alone, or, by a disk fault now, all that were begun.
pub record RefusesFront {D : Type 0} (old : LiveState D) (events : List Event) (error : LiveError) (rest : List Event) : Type 0 where
  pub front : List Event
  pub parted : events ≡ front ++ rest
  pub some : events ≢ [] → front ≢ []
  pub alone : (old.is_broken ≡ true) ⊎ (error ≢ Broken) → length front ≤ 1

-- ---- what a group is

-- The answers are those of the steps of one history, in order, each of its own event and with the state before it. Behind them the stage
-- has counted these events and has the state after them, and their records stand in the file that was ready.
pub record IsGroup {D : Type 0} (old : LiveState D) (turns : List Answer) (new : LiveState D) : Type 0 where
  pub transcript : IsTranscript old [] (asked_by turns) (map Ok turns)
  pub before : BearTheirStates old.state [] turns
  pub state : new.state ≡ replayed old.state (history_in turns)
  pub event : new.numbers.event ≡ old.numbers.event + length turns
  pub numbers : new.numbers ≡ numbers_after old.state old.numbers (history_in turns)
  pub file : new.file ≡ file_with (group_file old turns) (bodies_after old.state (history_in turns))
  pub work : turns ≢ [] → new.work ≡ min (group_work old turns + sum_by answer_work turns) greatest
  pub none : turns ≡ [] → new ≡ old

-- The answers of groups that followed one another are those of the steps of one history, in order, each of its own event and with the state
-- before it. Behind them the stage has counted these events and has the state after them.
pub record IsOneHistory {D : Type 0} (old : LiveState D) (turns : List Answer) (new : LiveState D) : Type 0 where
  pub transcript : IsTranscript old [] (asked_by turns) (map Ok turns)
  pub before : BearTheirStates old.state [] turns
  pub state : new.state ≡ replayed old.state (history_in turns)
  pub event : new.numbers.event ≡ old.numbers.event + length turns
  pub numbers : new.numbers ≡ numbers_after old.state old.numbers (history_in turns)

-- ---- what a restart finds

-- the saved state from before a group, or the one behind its last event, by this history
abbrev pub IsNoneOrAll : State → List Entry → Option SavedState → Type 0
IsNoneOrAll s whole found = (found ≡ Some s.machine.saved) ⊎ (let last = replayed s whole in found ≡ Some last.machine.saved)

-- the events of a history, the oldest first
abbrev pub events_in : List Entry → List Event
events_in [] = []
events_in (entry ∷ earlier) = events_in earlier ++ entry.event ∷ []

-- a history of the first ones of the events that were refused
abbrev pub IsOfFront : List Entry → List Event → List Event → Type 0
IsOfFront whole events rest = (more : List Event) × (events ≡ events_in whole ++ more ++ rest)

-- From its `Ok` on whatever a crash leaves says the records of all its events, behind the snapshot that was due, if one was. Where it has
-- answers and no checkpoint is put off, there are at most so many records, and they take no more bytes than the bound and one record.
pub record IsGroupWritten {D : Type 0} (history : D → List Change) (old new : LiveState D) (turns : List Answer) : Type 0 where
  pub says : new.content ≡ with_records (group_content old turns) (bodies_after old.state (history_in turns))
  pub stored : IsStored history new
  pub few : turns ≢ [] → old.file.is_put_off ≡ false
      → length new.content.records ≤ most_records new.content.layout (length new.content.snapshot)
  pub short : turns ≢ [] → old.file.is_put_off ≡ false
      → records_len new.content.records ≤ most_bytes (length new.content.snapshot) + longest_record

-- what a refused group is refused with, as a turn would be
abbrev pub as_a_turn : {A : Type 0} → Result A RefusedTurns → Result A LiveError
as_a_turn (Ok turns) = Ok turns
as_a_turn (Err refused) = Err refused.error
