-- Room on the disk that is looked for under the lock, and waited for.
use Rattle.std.specs.Prelude.{◌≡◌, ℕ, Bool, true, false, not, List, length, Option, Some, unwrap_or, IfSome}
use Rattle.disk_model.specs.History.{Change}
use Rattle.daemon_core.specs.declared.event.Event.{Event}
use Rattle.daemon_core.specs.declared.event.Event.TheVariants as events
use Rattle.live_stage.specs.Found.{AllFindSince}
use Rattle.live_stage.specs.LiveState.{LiveState}
use Rattle.live_stage.specs.Numbers.{is_due}
use Rattle.live_stage.specs.Turns.{HasBehind, HasRoom, room_enough}
use Rattle.machine_core.specs.State.{lacks_room}
use Rattle.profile.specs.declared.profile.Profile.TheVariants.{Wide}
use Rattle.stage_workers.specs.LockState.{LockState}

-- what lies under the lock beside the stage is as it was
pub record IsRestKept {D : Type 0} (old new : LockState D) : Type 0 where
  pub outbox : new.outbox ≡ old.outbox
  pub books : new.books ≡ old.books
  pub closed : new.is_closed ≡ old.is_closed

-- It is told where that has changed, and how it is then; and where what is saved can change behind it, there is room.
pub record TellsRoom {D : Type 0} (honest : D → Type 0) (content : D → List ℕ) (old new : LiveState D) (told : Option Bool) : Type 0 where
  pub changed : IfSome told (λ is_there. is_there ≡ lacks_room old.state.machine)
  pub room : honest old.a → honest old.b → old.state.machine.saved.profile ≡ Wide
      → unwrap_or told (not (lacks_room old.state.machine)) ≡ true → HasRoom content new

-- stopped at any moment, a restart finds the same saved state
abbrev pub FindsTheSame : {D : Type 0} → (D → List Change) → LiveState D → LiveState D → Type 0
FindsTheSame history old new =
    AllFindSince (λ f. f ≡ Some old.state.machine.saved) (history new.a) (length (history old.a)) (history new.b) (length (history old.b))

-- ---- events of workers

-- the event of a worker may make a record
abbrev pub may_record : Event → Bool
may_record (events.Ended ticket) = true
may_record (events.Broken ticket cause) = true
may_record (events.Batch job changes) = true
may_record (events.Keep ticket) = true
may_record event = false

-- it is what a scan found
abbrev pub is_batch : Event → Bool
is_batch (events.Batch job changes) = true
is_batch event = false

-- a life begins with it, before the loop's first turn
abbrev pub is_resume : Event → Bool
is_resume (events.Resume plays) = true
is_resume event = false

-- Any other waits while a checkpoint is due, since it would make it, also without a record.
abbrev pub WaitsWhereDue : {D : Type 0} → Event → Bool → LiveState D → Bool → Type 0
WaitsWhereDue event waits live closed = is_due live.file ≡ true → is_resume event ≡ false → closed ≡ false → live.is_broken ≡ false
    → live.state.machine.saved.profile ≡ Wide → waits ≡ true

-- What may make a record and doesn't wait, where what is saved can change, finds room for it, and for a group behind it.
abbrev pub FindsRoomFor : {D : Type 0} → (D → List ℕ) → Event → Bool → LiveState D → Bool → Type 0
FindsRoomFor content event waits live closed = waits ≡ false → may_record event ≡ true → closed ≡ false → live.is_broken ≡ false
    → live.state.machine.saved.profile ≡ Wide → lacks_room live.state.machine ≡ false → HasBehind content room_enough live
