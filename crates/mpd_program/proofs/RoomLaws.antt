-- Room that is made before what a client asks for: the disks alone are called.
use Rattle.std.proofs.Common.{◌≡◌, ◌≢◌, inl, true, false, ℕ, List, [], length, Option, Some, None, Result, Ok, Err, refl, sym, subst}
use Rattle.disk_model.specs.History.{Change}
use Rattle.disk_model.specs.Later.{AreLater}
use Rattle.client_session.proofs.ByteLaws.{keeps_itself}
use Rattle.daemon_core.specs.declared.event.Event.TheVariants as events
use Rattle.daemon_core.specs.State.{State}
use Rattle.live_stage.specs.declared.refusal.LiveError.{LiveError}
use Rattle.live_stage.specs.declared.refusal.LiveError.TheVariants.{Broken, NoMemory, NumbersSpent}
use Rattle.live_stage.specs.Found.{AllFindSince}
use Rattle.live_stage.specs.LiveState.{LiveState}
use Rattle.live_stage.specs.Turns.{TellsFaults}
use Rattle.play_journal.specs.Calls.{SameFaults}
use Rattle.mpd_program.specs.Serving.{Serves, ServesEvents, ending_of}
use Rattle.mpd_program.specs.declared.console.Ending.TheVariants.{Cut}
use Rattle.mpd_program.specs.declared.console.serving.Service.{Service}
use Rattle.mpd_program.proofs.ServingLaws.{fares_on_event, none_served, nothing_served, one_failed, serves_by}

module _ {D F W : Type 0} {honest : D → Type 0} {history : D → List Change} {faults : D → ℕ} {contents : W → Option (List ℕ)} where
  -- nothing was asked for, and the state stays
  pub room_made : (old : Service D F W) (live : LiveState D) → live.state ≡ old.live.state → live.is_broken ≡ false
      → SameFaults faults old.live.a old.live.b live.a live.b
      → AreLater honest history faults old.live.a old.live.b live.a live.b
      → Serves honest history faults contents [] old (record old { live = live }) (Ok tt)
  room_made old live same usable met later =
      serves_by
      (subst (λ (t : State). ServesEvents (honest old.live.a × honest old.live.b) old.client [] old.live.state t (history live.a)
      (history live.b) (contents old.writer.now) (contents old.writer.now) (Ok tt)) (sym same) (nothing_served _ _ _ _ _ _))
      (fares_on_event old.live live (Ok tt) (λ is. cc) usable met later) refl refl refl

  room_cut : (old : Service D F W) (live : LiveState D) → live.state ≡ old.live.state → live.is_broken ≡ false
      → SameFaults faults old.live.a old.live.b live.a live.b
      → AreLater honest history faults old.live.a old.live.b live.a live.b
      → Serves honest history faults contents [] old (record old { live = live }) (Err Cut)
  room_cut old live same usable met later =
      serves_by (none_served _ _ [] _ _ _ _ _ _ same (keeps_itself (contents old.writer.now)))
      (fares_on_event old.live live (Err Cut) (λ is. cc) usable met later) tt refl refl

  -- room could not be looked for: a disk fault is one in the event that would tell of it
  pub room_refused : {T : Type 0} (old : Service D F W) (live : LiveState D) (e : LiveError) → old.live.is_broken ≡ false
      → (honest old.live.a → honest old.live.b → AllFindSince (λ f. f ≡ Some old.live.state.machine.saved)
      (history live.a) (length (history old.live.a)) (history live.b) (length (history old.live.b)))
      → (e ≢ Broken → (live.state ≡ old.live.state) × (live.is_broken ≡ false))
      → (let answer : Result T LiveError = Err e in TellsFaults honest faults old.live live answer)
      → AreLater honest history faults old.live.a old.live.b live.a live.b
      → Serves honest history faults contents [] old (record old { live = live }) (Err (ending_of e))
  room_refused old live Broken usable found stays told later =
      serves_by
      (one_failed _ old.client (events.Room true) old.live.state live.state (history live.a) (history live.b)
      (length (history old.live.a)) (length (history old.live.b)) (contents old.writer.now) (λ h. (None, λ x y at_x at_y. inl (found h.0 h.1 x y at_x at_y))) tt)
      (record { usable = λ other. absurd (other refl); failed = λ ha hb is. told.failed ha hb usable refl; later = later })
      tt refl refl
  room_refused old live NoMemory usable found stays told later =
      let left = stays (λ is. cc) in room_cut old live left.0 left.1 (told.met_none (λ is. cc)) later
  room_refused old live NumbersSpent usable found stays told later =
      let left = stays (λ is. cc) in room_cut old live left.0 left.1 (told.met_none (λ is. cc)) later
