-- What contracts see of what lies under the lock.
use Rattle.std.specs.Prelude.{◌≡◌, List, [], Bool, false, Some}
use Rattle.disk_model.specs.History.{Change}
use Rattle.daemon_core.specs.declared.outcome.Output.{Output}
use Rattle.live_stage.specs.Found.{AllFindNow}
use Rattle.live_stage.specs.LiveState.{LiveState}
use Rattle.stage_workers.specs.PassState.{BooksState}
use Rattle.stage_workers.specs.Books.{empty_books}

-- the stage, the outputs of each event that were not handed over yet, the books, and whether the workers are to end
pub record LockState (D : Type 0) : Type 0 where
  pub live : LiveState D
  pub outbox : List (List Output)
  pub books : BooksState
  pub is_closed : Bool

-- a stage that is shared from now on
abbrev pub first_lock : {D : Type 0} → LiveState D → LockState D
first_lock live = record { live = live; outbox = []; books = empty_books; is_closed = false }

-- whatever a crash now leaves of the files of a stage that isn't broken, a restart finds its saved state
abbrev pub FindsItsState : {D : Type 0} → (D → Type 0) → (D → List Change) → LiveState D → Type 0
FindsItsState honest history live = honest live.a → honest live.b → live.is_broken ≡ false
    → AllFindNow (λ f. f ≡ Some live.state.machine.saved) (history live.a) (history live.b)
