-- What a daemon opens: its journal, and behind a disk fault its journal again.
use Rattle.std.specs.Prelude.{◌≡◌, ◌≢◌, ◌⊎◌, Bool, ℕ, List, Some, Result, Ok, Err, IfOk, IfErr, IsSome, MatchResult}
use Rattle.disk_model.specs.History.{Change}
use Rattle.disk_model.specs.Images.{window, IsImage}
use Rattle.disk_model.specs.Later.{HasFailed}
use Rattle.play_journal.specs.Calls.{SameFaults}
use Rattle.play_journal.specs.Content.{Content}
use Rattle.play_journal.specs.Pair.{found}
use Rattle.profile.specs.declared.profile.Profile.{Profile}
use Rattle.live_stage.specs.declared.refusal.StartError.{StartError}
use Rattle.live_stage.specs.declared.refusal.StartError.TheVariants.{NoMemory, NumbersSpent, Broken}
use Rattle.live_stage.specs.Errors.{IsCause, IsRefusalOfOpen}
use Rattle.live_stage.specs.Found.{found_state, AllFindNow, AllOpenNow, KeepsFoundState}
use Rattle.live_stage.specs.LiveState.{LiveState}
use Rattle.live_stage.specs.Turns.{IsOver}
use Rattle.mpd_server.specs.declared.ending.LifeEnding.{LifeEnding}
use Rattle.mpd_server.specs.declared.ending.ServeStatus.{ServeStatus}
use Rattle.mpd_server.specs.Ends.{refusal_of, status_of}

-- what an opening comes to: a stage, or why there is none
abbrev pub Answer : Type 0 → Type 0
Answer D = Result (LiveState D) StartError

-- One opening of the files of two honest disks under a profile, which leaves the disks so: the stage has the state that a restart finds in
-- the files, or the refusal names what is wrong with them. Stopped at any moment, a restart finds what it might have found before; and
-- behind it the files give the state of the stage. Where a restart finds a state in each pair that a crash may have left, the journal
-- opens, unless memory is wanting, numbers are spent or a disk fails.
pub record IsOpening {D : Type 0} (profile : Profile) (content : D → List ℕ) (history : D → List Change) (faults : D → ℕ) (a b : D)
    (answer : Answer D) (new_a new_b : D) : Type 0 where
  pub gives : MatchResult answer (λ live. found_state profile (content a) (content b) ≡ Some live.state.machine.saved)
      (λ error. IsCause profile (content a) (content b) error)
  pub any_moment : KeepsFoundState profile (history a) (history b) (history new_a) (history new_b)
  pub kept : IfOk answer (λ live. AllFindNow (λ f. f ≡ Some live.state.machine.saved) (history new_a) (history new_b))
  pub numbers : IfOk answer (λ live. (said : Content) → found (content a) (content b) ≡ Some said → IsOver history said live)
  pub opens : AllOpenNow profile (λ f. IsSome f) (history a) (history b)
      → IfErr answer (λ error. (error ≡ NoMemory) ⊎ (error ≡ NumbersSpent) ⊎ (error ≡ Broken))
  pub fault : MatchResult answer (λ live. SameFaults faults a b new_a new_b) (λ error. error ≡ Broken → HasFailed faults a b new_a new_b)

-- An opening in which a disk failed, and another one over the disks as that leaves them, of which reads give what a crash may leave.
pub record IsOpenedAgain {D : Type 0} (profile : Profile) (content : D → List ℕ) (history : D → List Change) (faults : D → ℕ) (a b : D)
    (answer : Answer D) (new_a new_b : D) : Type 0 where
  pub between_a : D
  pub between_b : D
  pub first : IsOpening profile content history faults a b (Err Broken) between_a between_b
  pub image_a : IsImage (window (history between_a)) (content between_a)
  pub image_b : IsImage (window (history between_b)) (content between_b)
  pub second : IsOpening profile content history faults between_a between_b answer new_a new_b

-- Openings that come to no stage, for a reason with P: how the life ends that was to begin.
pub record IsNotOpened (P : StartError → Type 0) (ending : LifeEnding) : Type 0 where
  pub error : StartError
  pub refusal : IsRefusalOfOpen error
  pub told : ending ≡ refusal_of error
  pub reason : P error

-- the same of a daemon: with which status it ends
pub record IsNotBegun (P : StartError → Type 0) (status : ServeStatus) : Type 0 where
  pub error : StartError
  pub refusal : IsRefusalOfOpen error
  pub told : status ≡ status_of (refusal_of error)
  pub reason : P error

-- the refusal of one opening, in which no disk failed, or of one that followed an opening in which one did
abbrev pub RefusesOnceOrAgain : {D : Type 0} → Profile → (D → List ℕ) → (D → List Change) → (D → ℕ) → D → D → StartError → D → D → Type 0
RefusesOnceOrAgain profile content history faults a b error new_a new_b =
    ((error ≢ Broken) × IsOpening profile content history faults a b (Err error) new_a new_b)
    ⊎ IsOpenedAgain profile content history faults a b (Err error) new_a new_b

-- a stage that was opened, and whether that was behind a disk fault
pub record OpenedState (D : Type 0) : Type 0 where
  pub live : LiveState D
  pub is_second : Bool
