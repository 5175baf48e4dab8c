-- The saved state that a restart finds.
use Rattle.std.specs.Prelude.{◌≡◌, ◌⊎◌, ℕ, ◌+◌, Bool, List, [], ◌∷◌, length, Option, Some, None, Result, Ok, nat_le, option_map}
use Rattle.std.specs.Prelude.{if◌then◌else◌}
use Rattle.std.specs.Option.{option_and_then, ok_or}
use Rattle.std.specs.Result.{result_ok}
use Rattle.disk_model.specs.History.{Change}
use Rattle.disk_model.specs.Images.{window, IsImage}
use Rattle.disk_model.specs.Moments.{LeftSince, Continues}
use Rattle.play_journal.specs.Content.{Content}
use Rattle.play_journal.specs.Pair.{found}
use Rattle.profile.specs.declared.profile.Profile.{Profile}
use Rattle.profile.specs.declared.profile.Profile.TheVariants.{Named, Wide}
use Rattle.state_codec.specs.Layout.{written_layout}
use Rattle.state_codec.specs.SavedState.{SavedState, widened}
use Rattle.state_codec.specs.Applied.{all_applied}
use Rattle.state_codec.specs.Reading.{ops_reading, saved_reading}
use Rattle.state_codec.specs.Steps.{◌>>=◌}

-- the state after the ops that a record's body spells in a layout, where it spells ops and all of them apply
abbrev pub after_record : ℕ → List ℕ → SavedState → Option SavedState
after_record layout body s = option_and_then (λ ops. all_applied ops s) (result_ok (ops_reading layout body))

-- The state after these records of a layout, one after the other, or the offset of the gate of the first that gives none. The
-- first record's gate has this offset; a record is its gate, four bytes of length and its body.
abbrev pub records_reading : ℕ → ℕ → List (List ℕ) → SavedState → Result SavedState ℕ
records_reading layout gate [] s = Ok s
records_reading layout gate (body ∷ bodies) s = do
  after ← ok_or (after_record layout body s) gate
  records_reading layout (gate + (5 + length body)) bodies after

-- the offset of a snapshot in its file
abbrev pub snapshot_at : ℕ
snapshot_at = 32

-- the state that a snapshot and its records stand for in a layout, or the offset of the first of them that stands for none
unfoldable pub stored_reading : ℕ → List ℕ → List (List ℕ) → Result SavedState ℕ
stored_reading layout snapshot records = do
  s ← ok_or (result_ok (saved_reading layout snapshot)) snapshot_at
  records_reading layout (snapshot_at + length snapshot) records s

abbrev pub content_reading : Content → Result SavedState ℕ
content_reading content = stored_reading content.layout content.snapshot content.records

-- the state that a journal's content stands for, where there is one
abbrev pub state_of : Option Content → Option SavedState
state_of content = option_and_then (λ c. result_ok (content_reading c)) content

-- the saved state that a pair of files gives, or none: the snapshot's, with the ops of each record applied in order
abbrev pub given_state : List ℕ → List ℕ → Option SavedState
given_state a b = state_of (found a b)

-- whatever a crash now leaves of two files, they give a state with P
abbrev pub AllFindNow : (Option SavedState → Type 0) → List Change → List Change → Type 0
AllFindNow P a b = (x y : List ℕ) → IsImage (window a) x → IsImage (window b) y → P (given_state x y)

-- whatever crashes since these moments left of two files, each at a moment of its own, they give a state with P
abbrev pub AllFindSince : (Option SavedState → Type 0) → List Change → ℕ → List Change → ℕ → Type 0
AllFindSince P a s b t = (x y : List ℕ) → LeftSince a s x → LeftSince b t y → P (given_state x y)

-- ---- under a profile

-- whether files of a layout are read: of that which is written and of those before it
abbrev pub is_read : Profile → ℕ → Bool
is_read profile layout = nat_le layout (written_layout profile)

-- a state as it is taken: the second profile takes each as its own
abbrev pub brought : Profile → SavedState → SavedState
brought Named s = s
brought Wide s = widened s

-- the state that a journal's content stands for, if it is of a layout that is read
abbrev pub taken_state : Profile → Content → Option SavedState
taken_state profile content = if is_read profile content.layout then option_map (brought profile) (state_of (Some content)) else None

-- The state that a restart finds in a pair of files, or none. A state that has this profile it finds as it was given.
abbrev pub found_state : Profile → List ℕ → List ℕ → Option SavedState
found_state profile a b = option_and_then (taken_state profile) (found a b)

-- whatever a crash now leaves of two files, a restart finds a state with P
abbrev pub AllOpenNow : Profile → (Option SavedState → Type 0) → List Change → List Change → Type 0
AllOpenNow profile P a b = (x y : List ℕ) → IsImage (window a) x → IsImage (window b) y → P (found_state profile x y)

-- whatever crashes since these moments left of two files, each at a moment of its own, a restart finds a state with P
abbrev pub AllOpenSince : Profile → (Option SavedState → Type 0) → List Change → ℕ → List Change → ℕ → Type 0
AllOpenSince profile P a s b t = (x y : List ℕ) → LeftSince a s x → LeftSince b t y → P (found_state profile x y)

-- from each pair that crashes left since then, a restart finds what it finds from some pair of before
abbrev pub FindsAsBefore : Profile → List Change → List Change → List Change → List Change → Type 0
FindsAsBefore profile old_a old_b new_a new_b =
    (x y : List ℕ) → LeftSince new_a (length old_a) x → LeftSince new_b (length old_b) y
    → (v w : List ℕ) × IsImage (window old_a) v × IsImage (window old_b) w × (found_state profile x y ≡ found_state profile v w)

-- While the files are brought to the layout that is written, a restart finds the state that it finds when that begins.
pub record FindsOneState (profile : Profile) (middle_a middle_b new_a new_b : List Change) : Type 0 where
  pub state : SavedState
  pub first : AllOpenNow profile (λ f. f ≡ Some state) middle_a middle_b
  pub since : AllOpenSince profile (λ f. f ≡ Some state) new_a (length middle_a) new_b (length middle_b)

-- From the middle of an opening to its end nothing is done, or a restart finds one state.
abbrev pub IsSecondPhase : Profile → List Change → List Change → List Change → List Change → Type 0
IsSecondPhase profile middle_a middle_b new_a new_b =
    ((new_a ≡ middle_a) × (new_b ≡ middle_b)) ⊎ FindsOneState profile middle_a middle_b new_a new_b

-- a moment of a run, from its start to its end
pub record IsBetween (old middle new : List Change) : Type 0 where
  pub before : Continues old middle
  pub behind : Continues middle new

-- An opening has two phases: up to its middle a restart finds what it might have found before, and then it finds one state.
pub record KeepsFoundState (profile : Profile) (old_a old_b new_a new_b : List Change) : Type 0 where
  pub middle_a : List Change
  pub middle_b : List Change
  pub in_a : IsBetween old_a middle_a new_a
  pub in_b : IsBetween old_b middle_b new_b
  pub first : FindsAsBefore profile old_a old_b middle_a middle_b
  pub second : IsSecondPhase profile middle_a middle_b new_a new_b
