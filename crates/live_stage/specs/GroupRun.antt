-- A run over many events in groups, one behind the other.
use Rattle.std.specs.Prelude.{◌≡◌, ◌≢◌, ℕ, zero, suc, ◌+◌, List, [], ◌∷◌, ◌++◌, length, Bool, Option, Some, true, false, MatchBool, Result, Ok, Err, ◌↔◌, ◌≤◌}
use Rattle.disk_model.specs.History.{Change}
use Rattle.disk_model.specs.Moments.{Continues}
use Rattle.daemon_core.specs.declared.event.Event.{Event}
use Rattle.daemon_core.specs.State.{State}
use Rattle.daemon_core.specs.Replay.{Entry}
use Rattle.state_codec.specs.SavedState.{SavedState}
use Rattle.live_stage.specs.declared.refusal.LiveError.{LiveError}
use Rattle.live_stage.specs.declared.refusal.LiveError.TheVariants.{Broken, NoMemory, NumbersSpent}
use Rattle.live_stage.specs.Answer.{Answer}
use Rattle.live_stage.specs.Found.{AllFindNow, AllFindSince}
use Rattle.live_stage.specs.Group.{events_in}
use Rattle.live_stage.specs.LiveState.{LiveState}
use Rattle.live_stage.specs.Numbers.{AreSpent}
use Rattle.live_stage.specs.Transcript.{HasRoomFor, IsTranscript, StaysBroken, broken_after, bytes_after, history_of, numbers_after, replayed}

-- the events from that on in which the first disk fault came
abbrev pub from_fault : List Event → List (Result Answer LiveError) → List Event
from_fault [] answers = []
from_fault (event ∷ events) [] = []
from_fault (event ∷ events) (Ok t ∷ answers) = from_fault events answers
from_fault (event ∷ events) (Err Broken ∷ answers) = event ∷ events
from_fault (event ∷ events) (Err NoMemory ∷ answers) = from_fault events answers
from_fault (event ∷ events) (Err NumbersSpent ∷ answers) = from_fault events answers

-- The whole history of a run in groups: it holds all that was given out, and on top of it, where a disk failed, the events of the group in
-- which it did, or none of them: they are the first ones from then on, and no answer of them was given.
pub record IsWholeOfGroups (events : List Event) (answers : List (Result Answer LiveError)) (whole : List Entry) : Type 0 where
  pub more : List Entry
  pub rest : List Event
  pub on_top : whole ≡ more ++ history_of [] events answers
  pub front : from_fault events answers ≡ events_in more ++ rest

-- a restart finds the state after the whole history of the run, from this state on
pub record FindsWholeOfGroups (s : State) (events : List Event) (answers : List (Result Answer LiveError)) (found : Option SavedState)
    : Type 0 where
  pub whole : List Entry
  pub is_whole : IsWholeOfGroups events answers whole
  pub finds : let now = replayed s whole in found ≡ Some now.machine.saved

-- a restart finds the state after a prefix of the history of the run, from this state on: the oldest entries, in order, and none in part
pub record FindsPrefixOfGroups (s : State) (events : List Event) (answers : List (Result Answer LiveError)) (found : Option SavedState)
    : Type 0 where
  pub whole : List Entry
  pub is_whole : IsWholeOfGroups events answers whole
  pub later : List Entry
  pub prefix : List Entry
  pub parts : whole ≡ later ++ prefix
  pub finds : let now = replayed s prefix in found ≡ Some now.machine.saved

-- whether one of these answers is `NumbersSpent`
abbrev pub tells_spent : List (Result Answer LiveError) → Bool
tells_spent [] = false
tells_spent (Ok t ∷ answers) = tells_spent answers
tells_spent (Err Broken ∷ answers) = tells_spent answers
tells_spent (Err NoMemory ∷ answers) = tells_spent answers
tells_spent (Err NumbersSpent ∷ answers) = true

-- From the first disk fault on each answer is `Broken`. `NumbersSpent` comes only where the numbers are spent, and they stay so; where they
-- are at first, nothing is done.
pub record GroupsRefuse {D : Type 0} (first last : LiveState D) (answers : List (Result Answer LiveError)) : Type 0 where
  pub broken : StaysBroken first.is_broken answers
  pub is_broken : last.is_broken ≡ broken_after first.is_broken answers
  pub spent : tells_spent answers ≡ true → last.is_broken ≡ false → AreSpent last.numbers last.file
  pub stays_spent : first.is_broken ≡ false → AreSpent first.numbers first.file → last ≡ first

-- ---- a run so far

-- what a run adds to the file, in which no checkpoint can be due
pub record AddsToFile {D : Type 0} (first now : LiveState D) (events : List Event) (answers : List (Result Answer LiveError)) : Type 0 where
  pub other_file : MatchBool first.is_in_b (now.a ≡ first.a) (now.b ≡ first.b)
  pub same_file : now.is_in_b ≡ first.is_in_b
  pub few : now.is_broken ≡ false → now.file.records ≤ first.file.records + length events
  pub short : now.is_broken ≡ false → now.file.bytes ≤ first.file.bytes + bytes_after first.state (history_of [] events answers)
  pub behind : now.is_broken ≡ false → now.file.snapshot_len ≡ first.file.snapshot_len
  pub laid : now.is_broken ≡ false → now.file.layout ≡ first.file.layout

-- Events were handled in groups: these are the answers, and the stage has come so far.
pub record IsGroupsSoFar {D : Type 0} (honest : D → Type 0) (history : D → List Change) (first now : LiveState D) (events : List Event)
    (answers : List (Result Answer LiveError)) : Type 0 where
  pub counted : length answers ≡ length events
  pub transcript : IsTranscript first [] events answers
  pub orderly : StaysBroken first.is_broken answers
  pub broken : now.is_broken ≡ broken_after first.is_broken answers
  pub stays : first.is_broken ≡ true → now ≡ first
  pub spent : tells_spent answers ≡ true → now.is_broken ≡ false → AreSpent now.numbers now.file
  pub stays_spent : first.is_broken ≡ false → AreSpent first.numbers first.file → now ≡ first
  pub unbroken : now.is_broken ≡ false → (from_fault events answers ≡ []) × (first.is_broken ≡ false)
  pub state : now.is_broken ≡ false → now.state ≡ replayed first.state (history_of [] events answers)
  pub event : now.numbers.event ≡ first.numbers.event + length (history_of [] events answers)
  pub numbers : now.is_broken ≡ false → now.numbers ≡ numbers_after first.state first.numbers (history_of [] events answers)
  pub in_file : HasRoomFor first events answers → first.is_broken ≡ false → AddsToFile first now events answers
  pub kept : honest first.a → honest first.b → now.is_broken ≡ false
      → AllFindNow (λ f. f ≡ Some now.state.machine.saved) (history now.a) (history now.b)
  pub given_out : honest first.a → honest first.b → first.is_broken ≡ false
      → AllFindNow (FindsWholeOfGroups first.state events answers) (history now.a) (history now.b)
  pub any_moment : honest first.a → honest first.b → first.is_broken ≡ false → HasRoomFor first events answers
      → AllFindSince (FindsPrefixOfGroups first.state events answers) (history now.a) (length (history first.a)) (history now.b)
      (length (history first.b))
  pub continues_a : honest first.a → Continues (history first.a) (history now.a)
  pub continues_b : honest first.b → Continues (history first.b) (history now.b)
  pub honest_a : honest first.a ↔ honest now.a
  pub honest_b : honest first.b ↔ honest now.b

-- ---- one group

-- so many refusals
abbrev pub refusals : ℕ → LiveError → List (Result Answer LiveError)
refusals zero error = []
refusals (suc n) error = Err error ∷ refusals n error

-- The first ones of the events were handled as a group, and their answers put behind those of before.
pub record HandlesGroup {D : Type 0} (honest : D → Type 0) (history : D → List Change) (old new : LiveState D) (events : List Event)
    (before after : List (Result Answer LiveError)) (rest : List Event) : Type 0 where
  pub front : List Event
  pub replies : List (Result Answer LiveError)
  pub parted : events ≡ front ++ rest
  pub some : front ≢ []
  pub added : after ≡ before ++ replies
  pub so_far : IsGroupsSoFar honest history old new front replies
