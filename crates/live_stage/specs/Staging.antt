-- How a group is handled, before its answers are given out.
use Rattle.std.specs.Prelude.{◌≡◌, ◌≢◌, ◌≤◌, ◌<◌, ◌-◌, ◌^◌, ℕ, ◌+◌, Bool, true, false, List, [], ◌++◌, length, map, min}
use Rattle.std.specs.Prelude.{Option, Some, Result, Ok, IfOk, MatchResult}
use Rattle.std.specs.List.{AllByRecursion}
use Rattle.disk_model.specs.History.{Change}
use Rattle.play_journal.specs.Content.{Content, IsWrittenLayout, with_records}
use Rattle.play_journal.specs.File.{records_len}
use Rattle.play_journal.specs.JournalState.{JournalState}
use Rattle.state_codec.specs.Applied.{all_applied}
use Rattle.state_codec.specs.Layout.{written_layout}
use Rattle.state_codec.specs.Ops.{IsOp}
use Rattle.daemon_core.specs.declared.event.Event.{Event}
use Rattle.daemon_core.specs.State.{State}
use Rattle.daemon_core.specs.Replay.{Entry}
use Rattle.daemon_core.specs.Step.{Stepped}
use Rattle.live_stage.specs.declared.staging.Begin.{Begin}
use Rattle.live_stage.specs.declared.turns.RefusedTurns.{RefusedTurns}
use Rattle.live_stage.specs.declared.turns.Turns.{Turns}
use Rattle.live_stage.specs.Answer.{Answer, IsNumbered, profile_of_step}
use Rattle.live_stage.specs.Found.{state_of, AllFindNow, AllFindSince}
use Rattle.live_stage.specs.Group.{AreParted, BearTheirStates, EndsThere, IsGroup, IsNoneOrAll, IsOfFront, TookEach}
use Rattle.live_stage.specs.Group.{asked_by, bodies_after, body_of_step, file_with, history_in, takes_more}
use Rattle.live_stage.specs.LiveState.{LiveState}
use Rattle.live_stage.specs.Numbers.{Numbers, FileNumbers, greatest, longest_record, most_bytes, most_records, record_bytes}
use Rattle.live_stage.specs.Transcript.{IsTranscript, replayed}
use Rattle.live_stage.specs.Writing.{file_of}

-- ---- one event of a group

-- the numbers with which a group began; nobody asks for the generation of its file
abbrev pub file_begun : Begin → FileNumbers
file_begun begin =
    record {
      layout = begin.layout;
      generation = 0;
      snapshot_len = begin.snapshot_len;
      records = begin.records;
      bytes = begin.bytes;
      is_put_off = begin.is_put_off;
    }

abbrev pub numbers_begun : Begin → Numbers
numbers_begun begin = record { event = begin.event; last_record = begin.last_record }

-- what a group of a stage begins with
abbrev pub begin_of : {D : Type 0} → LiveState D → Begin
begin_of old =
    record {
      event = old.numbers.event;
      last_record = old.numbers.last_record;
      layout = old.file.layout;
      snapshot_len = old.file.snapshot_len;
      records = old.file.records;
      bytes = old.file.bytes;
      is_put_off = old.file.is_put_off;
    }

-- the numbers behind so many events with these records
abbrev pub numbers_staged : Begin → ℕ → List (List ℕ) → Numbers
numbers_staged begin many bodies = record { event = begin.event + many; last_record = begin.last_record + length bodies }

-- the answer to an event, by its step
pub record IsAnswerOf (st : Stepped) (before : Numbers) (s : State) (event : Event) (t : Answer) : Type 0 where
  pub asked : t.asked ≡ event
  pub state : t.before ≡ s
  pub outputs : t.outputs ≡ st.outputs
  pub closes : t.closes ≡ st.closes
  pub ended : t.ended ≡ st.ended
  pub refused_at : t.refused_at ≡ st.refused_at
  pub numbered : IsNumbered before st.ops t

-- a step was made in memory, and its record put behind these
pub record AddsStep (st : Stepped) (before after : State) (bodies with_it : List (List ℕ)) : Type 0 where
  pub state : after ≡ st.after
  pub put : with_it ≡ bodies ++ body_of_step st
  pub applies : all_applied st.ops before.machine.saved ≡ Some st.after.machine.saved
  pub valid : AllByRecursion IsOp st.ops
  pub short : record_bytes (profile_of_step st) st.ops ≤ longest_record

-- ---- the events of a group

-- Events were answered by their steps in memory, and these are their records: a content that stood for the state before stands with them
-- for the state behind, which has the same profile.
pub record AreStaged (D : Type 0) (begin : Begin) (s : State) (turns : List Answer) (after : State) (bodies : List (List ℕ))
    : Type 0 where
  pub transcript : (old : LiveState D) → old.state ≡ s → old.numbers ≡ numbers_begun begin
      → IsTranscript old [] (asked_by turns) (map Ok turns)
  pub before : BearTheirStates s [] turns
  pub state : after ≡ replayed s (history_in turns)
  pub records : bodies ≡ bodies_after s (history_in turns)
  pub profile : after.machine.saved.profile ≡ s.machine.saved.profile
  pub stands : (content : Content) → content.layout ≡ written_layout s.machine.saved.profile → state_of (Some content) ≡ Some s.machine.saved
      → state_of (Some (with_records content bodies)) ≡ Some after.machine.saved

-- a file keeps to the bounds behind a turn that made the checkpoint that was due, if one was
pub record KeepsToBounds (file : FileNumbers) : Type 0 where
  pub few : file.is_put_off ≡ false → file.records ≤ most_records file.layout file.snapshot_len
  pub short : file.is_put_off ≡ false → file.bytes ≤ most_bytes file.snapshot_len + longest_record

-- Events were taken as long as they might be.
pub record AreTaken (begin : Begin) (s : State) (events : List Event) (turns : List Answer) (is_refused : Bool) (rest : List Event)
    (bodies : List (List ℕ)) : Type 0 where
  pub parted : AreParted events turns is_refused rest
  pub took : TookEach (takes_more s (numbers_begun begin) (file_begun begin)) [] turns
  pub refused : is_refused ≡ true → takes_more s (numbers_begun begin) (file_begun begin) turns ≡ true
  pub full : is_refused ≡ false → rest ≢ [] → takes_more s (numbers_begun begin) (file_begun begin) turns ≡ false
  pub bounded : KeepsToBounds (file_with (file_begun begin) bodies)
  pub counted : begin.event + length turns ≤ greatest
  pub numbered : begin.last_record + length bodies ≤ greatest

-- ---- records

-- a journal to which so many records are added, unless a disk fails
pub record TakesRecords {D : Type 0} (journal : JournalState D) (many : ℕ) : Type 0 where
  pub usable : journal.is_spent ≡ false
  pub layout : IsWrittenLayout journal.layout
  pub numbers : journal.base + journal.count + many < 2 ^ 64

-- these records were written
pub record HasRecordedAll {D : Type 0} (old new : JournalState D) (bodies : List (List ℕ)) : Type 0 where
  pub count : new.count ≡ old.count + length bodies
  pub file : file_of new ≡ file_with (file_of old) bodies
  pub usable : new.is_spent ≡ false

-- ---- a group

-- A group was handled before which no checkpoint was due.
pub record IsGroupHandled {D : Type 0} (old : LiveState D) (events : List Event) (turns : List Answer)
    (is_refused : Bool) (rest : List Event) (new : LiveState D) : Type 0 where
  pub group : IsGroup old turns new
  pub ends : EndsThere old events turns is_refused rest
  pub some : turns ≢ []
  pub bounded : KeepsToBounds new.file

-- While a group is handled a restart finds the state from before it or the one behind its last event, with one history throughout, which is
-- that of the answers. Then it finds the state of a stage that isn't broken, and the files say the records of all events.
pub record KeepsGroup {D D' : Type 0} (history : D → List Change) (old new : LiveState D) (events : List Event)
    (result : Result (Turns D') RefusedTurns) : Type 0 where
  pub during : (whole : List Entry) × MatchResult result (λ g. whole ≡ history_in g.turns.items) (λ e. IsOfFront whole events e.rest.items)
      × AllFindSince (IsNoneOrAll old.state whole) (history new.a) (length (history old.a)) (history new.b) (length (history old.b))
  pub kept : new.is_broken ≡ false → AllFindNow (λ f. f ≡ Some new.state.machine.saved) (history new.a) (history new.b)
  pub content : IfOk result (λ g. new.content ≡ with_records old.content (bodies_after old.state (history_in g.turns.items)))
