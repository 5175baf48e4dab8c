-- What two openings, one after the other, come to.
use Rattle.std.proofs.Common.{◌≡◌, ◌⊎◌, inl, inr, List, Option, Some, None, refl, sym, subst, length, ap, ◌∙◌}
use Rattle.std.specs.Prelude.{IsSome}
use Rattle.disk_model.specs.History.{Change}
use Rattle.disk_model.specs.Moments.{LeftSince}
use Rattle.disk_model.proofs.MomentLaws.{counts_now}
use Rattle.profile.specs.declared.profile.Profile.{Profile}
use Rattle.state_codec.specs.SavedState.{SavedState}
use Rattle.live_stage.specs.declared.refusal.StartError.{StartError}
use Rattle.live_stage.specs.declared.refusal.StartError.TheVariants.{NotEmpty, NoJournal, Damaged, NoMemory, NumbersSpent, Broken}
use Rattle.live_stage.specs.Found.{AllOpenNow, KeepsFoundState}
use Rattle.mpd_server.specs.declared.ending.LifeEnding.TheVariants.{Faulted}
use Rattle.mpd_server.specs.declared.ending.ServeStatus.{ServeStatus}
use Rattle.mpd_server.specs.declared.ending.ServeStatus.TheVariants.{JournalRefused, DiskFault}
use Rattle.mpd_server.specs.Ends.{refusal_of, status_of}

-- a life that a disk fault ended at its opening
pub broken_by : (error : StartError) → refusal_of error ≡ Faulted → error ≡ Broken
broken_by NotEmpty is = absurd (cc)
broken_by NoJournal is = absurd (cc)
broken_by (Damaged offset) is = absurd (cc)
broken_by NoMemory is = absurd (cc)
broken_by NumbersSpent is = absurd (cc)
broken_by Broken is = refl

some_is : (o : Option SavedState) (s : SavedState) → o ≡ Some s → IsSome o
some_is None s is = absurd (cc)
some_is (Some t) s is = refl

-- an opening leaves pairs that give a state
pub still_gives : (p : Profile) (old_a old_b new_a new_b : List Change) → KeepsFoundState p old_a old_b new_a new_b
    → AllOpenNow p (λ f. IsSome f) old_a old_b → AllOpenNow p (λ f. IsSome f) new_a new_b
still_gives p old_a old_b new_a new_b holds all = λ x y at_x at_y. elim holds.second [
  | inl same ↦ (
      let left_a = subst (λ h. LeftSince h (length old_a) x) same.0 (counts_now new_a _ x at_x) in
      let left_b = subst (λ h. LeftSince h (length old_b) y) same.1 (counts_now new_b _ y at_y) in
      let from = holds.first x y left_a left_b in
      subst IsSome (sym from.4) (all from.0 from.1 from.2 from.3))
  | inr one ↦ some_is _ _ (one.since x y (counts_now new_a _ x at_x) (counts_now new_b _ y at_y))
]

-- what a daemon ends with whose files were good
pub good_status : (error : StartError) (status : ServeStatus) → status ≡ status_of (refusal_of error)
    → (error ≡ NoMemory) ⊎ (error ≡ NumbersSpent) ⊎ (error ≡ Broken)
    → (status ≡ JournalRefused 7) ⊎ (status ≡ JournalRefused 49) ⊎ (status ≡ DiskFault)
good_status error status is (inl memory) = inl (is ∙ ap (λ (e : StartError). status_of (refusal_of e)) memory)
good_status error status is (inr (inl spent)) = inr (inl (is ∙ ap (λ (e : StartError). status_of (refusal_of e)) spent))
good_status error status is (inr (inr broken)) = inr (inr (is ∙ ap (λ (e : StartError). status_of (refusal_of e)) broken))
