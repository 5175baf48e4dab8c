-- What an event does to what lies under the lock.
use Rattle.std.specs.Prelude.{◌≡◌, ◌≢◌, ◌⊎◌, ◌↔◌, ⊤, ℕ, ◌+◌, ◌<◌, ◌≤◌, List, [], ◌∷◌, ◌++◌, length, true, false, Option, None, Some}
use Rattle.std.specs.Prelude.{Result, Err, OnOk, OnErr, IfErr}
use Rattle.disk_model.specs.History.{Change}
use Rattle.disk_model.specs.Later.{HasFailed}
use Rattle.play_journal.specs.Calls.{SameFaults}
use Rattle.daemon_core.specs.declared.event.Event.{Event}
use Rattle.daemon_core.specs.declared.outcome.Output.{Output}
use Rattle.daemon_core.specs.Step.{step}
use Rattle.live_stage.specs.Answer.{Answer, IsTurn, IsBeforeOrAfter, HasNoOps}
use Rattle.live_stage.specs.Found.{AllFindSince}
use Rattle.live_stage.specs.LiveState.{LiveState}
use Rattle.live_stage.specs.Numbers.{AreSpent, is_due}
use Rattle.live_stage.specs.Turns.{IsStill, IsWritten, MakesNoCall}
use Rattle.stage_workers.specs.declared.refusal.StageError.{StageError}
use Rattle.stage_workers.specs.declared.refusal.StageError.TheVariants.{Broken, NoMemory, Rewound, NumbersSpent}
use Rattle.stage_workers.specs.declared.served.Served.{Served}
use Rattle.stage_workers.specs.declared.served.Way.{Way}
use Rattle.stage_workers.specs.declared.served.Way.TheVariants.{Serve, Report}
use Rattle.stage_workers.specs.PassState.{PassState, BooksState}
use Rattle.stage_workers.specs.Books.{counted}
use Rattle.stage_workers.specs.LockState.{LockState}

-- ---- an event that was answered

-- Stopped at any moment of an event, a restart finds the saved state from before it or from after it, where memory was refused at this
-- place.
abbrev pub FindsBeforeOrAfter : {D : Type 0} → (D → List Change) → LiveState D → LiveState D → Event → Option ℕ → Type 0
FindsBeforeOrAfter history old new event refused_at = AllFindSince (IsBeforeOrAfter old.state event refused_at)
    (history new.a) (length (history old.a)) (history new.b) (length (history old.b))

-- The event was one turn: its answer carries it, the state before it and its number, which is the last; its record was written; stopped at
-- any moment, a restart finds one of both states, with the refused place of the answer; without a record, and where no checkpoint was made,
-- no disk was called.
pub record IsOneTurn {D : Type 0} (honest : D → Type 0) (history : D → List Change) (old new : LiveState D) (event : Event) (t : Answer)
    : Type 0 where
  pub turn : IsTurn old event t new
  pub asked : t.asked ≡ event
  pub before : t.before ≡ old.state
  pub last : t.event ≡ new.numbers.event
  pub any_moment : honest old.a → honest old.b → FindsBeforeOrAfter history old new event t.refused_at
  pub written : honest old.a → honest old.b
      → (let now = step old.state event t.refused_at in IsWritten history old new now.ops)
  pub no_call : is_due old.file ≡ false → HasNoOps old event t → MakesNoCall old new

-- Either the answer is handed over, with all that was in the outbox, or its outputs are added there.
abbrev pub IsHandedOver : {D : Type 0} → Way → Answer → List (List Output) → List (List Output) → Option (Served D) → Type 0
IsHandedOver Serve t old new None = ⊥
IsHandedOver Serve t old new (Some served) = (served.turn ≡ t) × (served.before ≡ old) × (new ≡ [])
IsHandedOver Report t old new None = new ≡ old ++ t.outputs ∷ []
IsHandedOver Report t old new (Some served) = ⊥

-- an event went in this way: one turn, whose answer is handed over or whose outputs are left in the outbox
pub record IsEntered {D D' : Type 0} (honest : D → Type 0) (history : D → List Change) (way : Way) (old new : LockState D) (event : Event)
    (served : Option (Served D')) : Type 0 where
  pub answer : Answer
  pub one_turn : IsOneTurn honest history old.live new.live event answer
  pub handed_over : IsHandedOver way answer old.outbox new.outbox served
  pub same_closed : new.is_closed ≡ old.is_closed

-- the event is counted in the book and in the share of the pass's kind, and the pass has seen it
pub record IsCounted {D : Type 0} (old new : LockState D) (pass passed : PassState) : Type 0 where
  pub book : new.books ≡ counted pass.kind old.books
  pub kind : passed.kind ≡ pass.kind
  pub share : passed.share ≡ pass.share + 1
  pub seen : passed.seen ≡ new.live.numbers.event

-- A turn is counted in the book of the pass's kind, and in its share; the pass has seen its number, which is the last; and the stage isn't
-- broken.
pub record IsTurnCounted {D : Type 0} (live : LiveState D) (old new : BooksState) (before after : PassState) : Type 0 where
  pub book : new ≡ counted before.kind old
  pub pass : after ≡ record { kind = before.kind; seen = live.numbers.event; share = before.share + 1 }
  pub usable : live.is_broken ≡ false

-- ---- any event

-- an event is taken by a stage that isn't broken and has no number spent, unless memory is wanting or a disk fails
pub record TakesEvent {D : Type 0} (live : LiveState D) : Type 0 where
  pub usable : live.is_broken ≡ false
  pub unspent : AreSpent live.numbers live.file → ⊥

-- Stopped at any moment of an event that a stage takes, a restart finds the saved state from before it or from after it, with one refused
-- place for all that crashes may leave.
abbrev pub AnyMoment : {D : Type 0} → (D → Type 0) → (D → List Change) → LiveState D → LiveState D → Event → Type 0
AnyMoment honest history old new event = honest old.a → honest old.b → old.is_broken ≡ false
    → (refused_at : Option ℕ) × FindsBeforeOrAfter history old new event refused_at

-- `Broken` is told only where one of the two disks has failed, or the stage was broken, and any other answer only where neither has.
pub record TellsFaults {D T : Type 0} (honest : D → Type 0) (faults : D → ℕ) (old new : LiveState D) (result : Result T StageError)
    : Type 0 where
  pub failed : honest old.a → honest old.b → old.is_broken ≡ false → result ≡ Err Broken → HasFailed faults old.a old.b new.a new.b
  pub met_none : result ≢ Err Broken → SameFaults faults old.a old.b new.a new.b

-- What a refusal leaves of a stage that wasn't broken: want of memory leaves it as it was, but for the checkpoint that was due; a disk
-- fault breaks it; at the others nothing was done.
abbrev pub IsLeft : {D : Type 0} → StageError → LiveState D → LiveState D → Type 0
IsLeft Broken old new = new.is_broken ≡ true
IsLeft NoMemory old new = IsStill old new
IsLeft (Rewound seen found) old new = new ≡ old
IsLeft NumbersSpent old new = new ≡ old

-- a turn is refused for want of memory or by a disk fault alone, and then books and pass are as they were
pub record IsTurnRefused {D : Type 0} (error : StageError) (old new : LiveState D) (books books_after : BooksState)
    (before after : PassState) : Type 0 where
  pub only : (error ≡ Broken) ⊎ (error ≡ NoMemory)
  pub left : IsLeft error old new
  pub same_books : books_after ≡ books
  pub same_pass : after ≡ before

-- the pass has seen more events than the stage had, and these are the numbers of both
pub record IsRewound {D : Type 0} (live : LiveState D) (pass : PassState) (seen found : ℕ) : Type 0 where
  pub seen_is : seen ≡ pass.seen
  pub found_is : found ≡ live.numbers.event
  pub more : found < seen

-- a refused pass has seen more than there was found
abbrev pub TellsRewound : PassState → StageError → Type 0
TellsRewound pass Broken = ⊤
TellsRewound pass NoMemory = ⊤
TellsRewound pass (Rewound seen found) = (seen ≡ pass.seen) × (found < seen)
TellsRewound pass NumbersSpent = ⊤

-- A stage that was broken refuses; then a pass that has seen more events than there were is refused; then numbers that are spent; then come
-- want of memory and a disk fault. A refusal leaves outbox and books as they were.
pub record RefusesInOrder {D T : Type 0} (old new : LockState D) (pass : PassState) (result : Result T StageError) : Type 0 where
  pub broken : old.live.is_broken ≡ true → (result ≡ Err Broken) × (new ≡ old)
  pub rewound : old.live.is_broken ≡ false → old.live.numbers.event < pass.seen
      → result ≡ Err (Rewound pass.seen old.live.numbers.event)
  pub rewound_only : (seen found : ℕ) → result ≡ Err (Rewound seen found) → IsRewound old.live pass seen found
  pub numbers_spent : old.live.is_broken ≡ false → pass.seen ≤ old.live.numbers.event
      → ((result ≡ Err NumbersSpent) ↔ AreSpent old.live.numbers old.live.file)
  pub usable : OnOk result (new.live.is_broken ≡ false)
  pub left : IfErr result (λ e. IsLeft e old.live new.live)
  pub same_outbox : OnErr result (new.outbox ≡ old.outbox)
  pub same_books : OnErr result (new.books ≡ old.books)
  pub same_closed : OnErr result (new.is_closed ≡ old.is_closed)
