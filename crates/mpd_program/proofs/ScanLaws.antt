-- Serving the events of a job, of which the client asked for none.
use Rattle.std.proofs.Common.{◌≡◌, ◌≢◌, ◌∙◌, ℕ, List, [], Bool, true, false, Option, Err, refl, sym, true≢false}
use Rattle.disk_model.specs.History.{Change}
use Rattle.client_session.proofs.ByteLaws.{keeps_itself}
use Rattle.live_stage.specs.declared.refusal.LiveError.{LiveError}
use Rattle.live_stage.specs.declared.refusal.LiveError.TheVariants.{Broken, NoMemory, NumbersSpent}
use Rattle.mpd_program.specs.Serving.{Serves, ending_of}
use Rattle.mpd_program.specs.declared.console.Ending.TheVariants.{Cut}
use Rattle.mpd_program.specs.declared.console.serving.Service.{Service}
use Rattle.mpd_program.proofs.ServingLaws.{fares_still, none_served, serves_by}

not_both : (b : Bool) → b ≡ true → b ≡ false → ⊥
not_both b it_is it_is_not = absurd (true≢false (sym it_is ∙ it_is_not))

module _ {D F W : Type 0} {honest : D → Type 0} {history : D → List Change} {faults : D → ℕ} {contents : W → Option (List ℕ)} where
  nothing_told : (service : Service D F W) → service.live.is_broken ≡ false
      → Serves honest history faults contents [] service service (Err Cut)
  nothing_told service usable =
      serves_by (none_served _ _ [] _ _ _ _ _ _ refl (keeps_itself (contents service.writer.now)))
      (fares_still service.live (Err Cut) (λ is. cc) usable) tt refl refl

  -- what is to be read could not be told
  pub not_told : (service : Service D F W) (e : LiveError) → service.live.is_broken ≡ false
      → (e ≡ Broken → service.live.is_broken ≡ true) → Serves honest history faults contents [] service service (Err (ending_of e))
  not_told service Broken usable broken = absurd (not_both service.live.is_broken (broken refl) usable)
  not_told service NoMemory usable broken = nothing_told service usable
  not_told service NumbersSpent usable broken = nothing_told service usable
