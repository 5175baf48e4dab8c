-- What a group of events does to what lies under the lock.
use Rattle.std.specs.Prelude.{◌≡◌, ◌≢◌, ℕ, ◌+◌, ◌≤◌, List, [], ◌∷◌, ◌++◌, length, true, false, Result, Ok, Err}
use Rattle.disk_model.specs.History.{Change}
use Rattle.daemon_core.specs.declared.event.Event.{Event}
use Rattle.daemon_core.specs.declared.outcome.Output.{Output}
use Rattle.daemon_core.specs.Replay.{Entry}
use Rattle.live_stage.specs.Answer.{Answer}
use Rattle.live_stage.specs.Found.{AllFindSince}
use Rattle.live_stage.specs.Group.{IsGroup, IsGroupWritten, IsNoneOrAll, bodies_after, history_in, makes_checkpoint}
use Rattle.live_stage.specs.LiveState.{LiveState}
use Rattle.live_stage.specs.Turns.{MakesNoCall}
use Rattle.stage_workers.specs.declared.refusal.StageError.{StageError}
use Rattle.stage_workers.specs.declared.refusal.StageError.TheVariants.{Broken}
use Rattle.stage_workers.specs.PassState.{PassState, BooksState}
use Rattle.stage_workers.specs.Books.{counted_by}
use Rattle.stage_workers.specs.LockState.{LockState}

-- ---- events that were answered

-- the number of the event of the last one of these answers, or this one, where there is none
abbrev pub seen_behind : ℕ → List Answer → ℕ
seen_behind seen [] = seen
seen_behind seen (t ∷ turns) = seen_behind t.event turns

-- a pass behind the events of these answers, which it made
abbrev pub passed_by : PassState → List Answer → PassState
passed_by pass turns = record {
  kind = pass.kind;
  seen = seen_behind pass.seen turns;
  share = pass.share + length turns;
}

-- The events of these answers were one group, whose records were written together; without a record, and where no checkpoint was made, no
-- disk was called.
pub record IsOneGroup {D : Type 0} (honest : D → Type 0) (history : D → List Change) (old new : LiveState D) (turns : List Answer)
    : Type 0 where
  pub group : IsGroup old turns new
  pub written : honest old.a → honest old.b → IsGroupWritten history old new turns
  pub no_call : makes_checkpoint old.file turns ≡ false → bodies_after old.state (history_in turns) ≡ []
      → MakesNoCall old new

-- A group went in: its answers are handed over behind all that was in the outbox.
pub record IsGroupEntered {D : Type 0} (honest : D → Type 0) (history : D → List Change) (old new : LockState D)
    (before : List (List Output)) (turns : List Answer) : Type 0 where
  pub one_group : IsOneGroup honest history old.live new.live turns
  pub handed_over : before ≡ old.outbox
  pub emptied : new.outbox ≡ []
  pub same_closed : new.is_closed ≡ old.is_closed

-- Each event that was answered is counted in the book and in the share of the pass's kind, and the pass has seen the last one.
pub record AreCounted {D : Type 0} (old new : LockState D) (pass passed : PassState) (turns : List Answer) : Type 0 where
  pub book : new.books ≡ counted_by (length turns) pass.kind old.books
  pub made : passed ≡ passed_by pass turns
  pub later : pass.seen + length turns ≤ passed.seen

-- The same of a stage and its books alone, which isn't broken.
pub record IsGroupCounted {D : Type 0} (live : LiveState D) (old new : BooksState) (before after : PassState) (turns : List Answer)
    : Type 0 where
  pub book : new ≡ counted_by (length turns) before.kind old
  pub made : after ≡ passed_by before turns
  pub usable : live.is_broken ≡ false

-- ---- any events

-- Stopped at any moment of a group, a restart finds the saved state from before it or the one behind its last event, by this history.
abbrev pub FindsNoneOrAll : {D : Type 0} → (D → List Change) → LiveState D → LiveState D → List Entry → Type 0
FindsNoneOrAll history old new whole = AllFindSince (IsNoneOrAll old.state whole)
    (history new.a) (length (history old.a)) (history new.b) (length (history old.b))

-- What a refusal refuses is a front of the events: the first one alone, or, where a disk failed, all that were begun.
pub record RefusesFront (events : List Event) (error : StageError) (rest : List Event) : Type 0 where
  pub front : List Event
  pub parted : events ≡ front ++ rest
  pub some : events ≢ [] → front ≢ []
  pub alone : error ≢ Broken → length front ≤ 1

-- a stage that was broken already refuses the first one alone
pub record RefusesFrontOf {D : Type 0} (old : LiveState D) (events : List Event) (error : StageError) (rest : List Event) : Type 0 where
  pub refuses : RefusesFront events error rest
  pub broken : old.is_broken ≡ true → length refuses.front ≤ 1

-- what a refused group is refused with, as an event would be
abbrev pub as_an_event : {A B : Type 0} → Result A (StageError × B) → Result A StageError
as_an_event (Ok group) = Ok group
as_an_event (Err refused) = Err refused.0
