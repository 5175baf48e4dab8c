use Rattle.std.proofs.Common.{◌≡◌, Ok, Err, Result, ℕ, sym, ap, subst, ◌∙◌}
use Rattle.std.specs.Prelude.{IfOk}
use Rattle.profile.specs.declared.profile.Profile.{Profile}
use Rattle.state_codec.specs.SavedState.{SavedState}
use Rattle.live_stage.specs.Decoding.{GivesState, brought_reading}
use Rattle.live_stage.specs.declared.refusal.StartError.{StartError}
use Rattle.live_stage.proofs.ProfileLaws.{brought_profile, err_brought, stored_profile}
use Rattle.live_stage.specs.Found.{brought}
use Rattle.live_stage.proofs.live.opening.state_in.Goals as goal

-- a state that is given has the profile of what it stands for
given_profile : (r : Result SavedState StartError) (s : SavedState) (p : Profile) → GivesState r (Ok s) → s.profile ≡ p
    → IfOk r (λ saved. saved.profile ≡ p)
given_profile (Ok t) s p given is = let same : s ≡ t = cc in ap (λ (x : SavedState). x.profile) (sym same) ∙ is
given_profile (Err e) s p given is = tt

pub returns-in-Ok-clause-read : goal.returns-in-Ok-clause-read
returns-in-Ok-clause-read g c =
    subst (λ (r : Result SavedState ℕ). GivesState c.brought.result r) (sym (ap (brought_reading c.args.profile) c.in-Ok.ensures))
    c.brought.ensures

pub returns-in-Ok-clause-profile : goal.returns-in-Ok-clause-profile
returns-in-Ok-clause-profile g c = λ known.
    given_profile c.brought.result (brought c.args.profile c.in-Ok.saved) c.args.profile c.brought.ensures
    (brought_profile c.args.profile c.args.journal.now.layout c.in-Ok.saved known
    (stored_profile c.args.journal.now.layout c.args.stored.snapshot c.args.stored.records c.in-Ok.saved c.in-Ok.ensures))

pub returns-in-Err-clause-read : goal.returns-in-Err-clause-read
returns-in-Err-clause-read g c = err_brought c.args.profile _ c.in-Err.error c.in-Err.ensures
