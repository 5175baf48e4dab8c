-- What a call leaves that writes to the files of a journal.
use Rattle.std.specs.Prelude.{◌≡◌, ◌≢◌, ◌≤◌, ◌<◌, ◌+◌, ◌-◌, ◌^◌, false, true, ℕ, List, [], length, Option, Some, Result, Err}
use Rattle.std.specs.Prelude.{IfOk, IfErr, OnOk, OnErr}
use Rattle.disk_model.specs.History.{Change}
use Rattle.disk_model.specs.Later.{AreLater, HasFailed}
use Rattle.play_journal.specs.Calls.{Holds, SameFaults}
use Rattle.play_journal.specs.Content.{Content, IsEither, IsWrittenLayout}
use Rattle.play_journal.specs.File.{longest_body}
use Rattle.play_journal.specs.JournalState.{JournalState}
use Rattle.play_journal.specs.Pair.{AllPairsSince}
use Rattle.profile.specs.declared.profile.Profile.{Profile}
use Rattle.state_codec.specs.declared.op.Op.{Op}
use Rattle.daemon_core.specs.declared.event.Event.{Event}
use Rattle.daemon_core.specs.Step.{step}
use Rattle.live_stage.specs.declared.refusal.LiveError.{LiveError}
use Rattle.live_stage.specs.declared.refusal.LiveError.TheVariants.{Broken}
use Rattle.live_stage.specs.Answer.{Answer, IsBeforeOrAfter, profile_of_step}
use Rattle.live_stage.specs.Found.{AllFindNow, AllFindSince}
use Rattle.live_stage.specs.LiveState.{LiveState}
use Rattle.live_stage.specs.Numbers.{FileNumbers, longest_record, record_bytes, record_number, recorded}
use Rattle.live_stage.specs.Turns.{recorded_content}

-- Stopped at any moment of the call, the files give what they gave before or this content, which they give from its `Ok` on.
pub record GoesOver {D T E : Type 0} (history : D → List Change) (old new : JournalState D) (after : Content) (result : Result T E)
    : Type 0 where
  pub during : AllPairsSince (IsEither old.content after) (history new.a) (length (history old.a)) (history new.b) (length (history old.b))
  pub kept : OnOk result (Holds history new after)

-- Both disks go on from what they were. This refusal is told only where one of them, both honest, has failed in the call, and `Ok` only
-- where neither has.
pub record CallsDisks {D T E : Type 0} (honest : D → Type 0) (history : D → List Change) (faults : D → ℕ) (old new : JournalState D)
    (refusal : E) (result : Result T E) : Type 0 where
  pub failed : honest old.a → honest old.b → result ≡ Err refusal → HasFailed faults old.a old.b new.a new.b
  pub met_none : OnOk result (SameFaults faults old.a old.b new.a new.b)
  pub later : AreLater honest history faults old.a old.b new.a new.b

-- ---- records

-- a journal to which a record with a body of this length is added, unless a disk fails
pub record TakesRecord {D : Type 0} (journal : JournalState D) (size : ℕ) : Type 0 where
  pub usable : journal.is_spent ≡ false
  pub layout : IsWrittenLayout journal.layout
  pub numbers : journal.base + journal.count < 2 ^ 64 - 1
  pub fits : size ≤ longest_body

-- the numbers of the file that is in use, where no checkpoint is put off
abbrev pub file_of : {D : Type 0} → JournalState D → FileNumbers
file_of journal =
    record {
      layout = journal.layout;
      generation = journal.generation;
      snapshot_len = journal.snapshot_len;
      records = journal.count;
      bytes = journal.bytes;
      is_put_off = false;
    }

-- the record of these ops was written, if there are any, and this is its number
pub record HasRecorded {D : Type 0} (profile : Profile) (old new : JournalState D) (ops : List Op) (number : Option ℕ) : Type 0 where
  pub is_next : number ≡ record_number (old.base + old.count) ops
  pub count : ops ≢ [] → new.count ≡ old.count + 1
  pub file : file_of new ≡ recorded profile (file_of old) ops
  pub usable : new.is_spent ≡ false

-- a record, or a snapshot, is refused by a disk fault alone, which spends the journal
pub record RefusesRecording {D T : Type 0} (new : JournalState D) (result : Result T LiveError) : Type 0 where
  pub only_a_fault : IfErr result (λ e. e ≡ Broken)
  pub spends : OnErr result (new.is_spent ≡ true)

-- ---- events

-- While an event is handled a restart finds the state from before it or the one after it, with one refused place throughout, which is
-- that of the answer. Then it finds the state of a stage that isn't broken, and the files say the record of the event's ops, which isn't
-- longer than the longest.
pub record KeepsEvent {D : Type 0} (history : D → List Change) (old new : LiveState D) (event : Event) (result : Result Answer LiveError)
    : Type 0 where
  pub during : (k : Option ℕ) × IfOk result (λ t. t.refused_at ≡ k) × AllFindSince (IsBeforeOrAfter old.state event k)
      (history new.a) (length (history old.a)) (history new.b) (length (history old.b))
  pub kept : new.is_broken ≡ false → AllFindNow (λ f. f ≡ Some new.state.machine.saved) (history new.a) (history new.b)
  pub content : IfOk result (λ t.
      let now = step old.state event t.refused_at in new.content ≡ recorded_content (profile_of_step now) old.content now.ops)
  pub short : IfOk result (λ t. let now = step old.state event t.refused_at in record_bytes (profile_of_step now) now.ops ≤ longest_record)
