-- An event that is refused before anything is done.
use Rattle.std.proofs.Common.{◌≡◌, ◌+◌, List, [], ◌∷◌, None, refl, sym, ◌∙◌, ap, subst, arith}
use Rattle.disk_model.specs.History.{Change}
use Rattle.daemon_core.specs.declared.event.Event.{Event}
use Rattle.live_stage.specs.Answer.{Answer, IsTurn}
use Rattle.live_stage.specs.LiveState.{LiveState}
use Rattle.live_stage.specs.Numbers.{Numbers, next_numbers}
use Rattle.state_codec.specs.declared.op.Op.{Op}
use Rattle.stage_workers.specs.Books.{counted, events_of}
use Rattle.stage_workers.specs.PassState.{BooksState}
use Rattle.stage_workers.specs.declared.kind.Kind.{Kind}
use Rattle.stage_workers.specs.declared.kind.Kind.TheVariants.{Clients, Player, Scan}
use Rattle.live_stage.proofs.TurnLaws.{found_still}
use Rattle.stage_workers.specs.LockState.{FindsItsState}
use Rattle.stage_workers.specs.Entry.{AnyMoment}

pub still : {D : Type 0} (honest : D → Type 0) (history : D → List Change) (live : LiveState D) (event : Event)
    → FindsItsState honest history live → AnyMoment honest history live live event
still honest history live event kept = λ ha hb usable. (
  None,
  found_still (history live.a) (history live.b) live.state event None (kept ha hb usable),
)

pub still_as : {D : Type 0} (honest : D → Type 0) (history : D → List Change) (live new : LiveState D) (event : Event) → new ≡ live
    → FindsItsState honest history live → AnyMoment honest history live new event
still_as honest history live new event same kept =
    subst (λ n. AnyMoment honest history live n event) (sym same) (still honest history live event kept)

-- the event after these numbers
pub next_event : (before : Numbers) (ops : List Op) → (next_numbers before ops).event ≡ before.event + 1
next_event before [] = refl
next_event before (op ∷ ops) = refl

-- a turn has the number that follows, and its answer bears it
pub turn_counts : {D : Type 0} (old new : LiveState D) (event : Event) (t : Answer) → IsTurn old event t new
    → new.numbers.event ≡ old.numbers.event + 1
turn_counts old new event t turn = ap (λ n. n.event) turn.numbers ∙ next_event _ _

pub turn_is_last : {D : Type 0} (old new : LiveState D) (event : Event) (t : Answer) → IsTurn old event t new
    → t.event ≡ new.numbers.event
turn_is_last old new event t turn = turn.numbered.event ∙ sym (turn_counts old new event t turn)

-- a book counts one event more
pub one_counted : (kind : Kind) (books : BooksState) → events_of (counted kind books) ≡ events_of books + 1
one_counted Clients books = omega arith
one_counted Player books = omega arith
one_counted Scan books = omega arith
