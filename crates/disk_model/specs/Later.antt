-- What every call of a disk keeps.
use Rattle.std.specs.Prelude.{◌↔◌, ◌⊎◌, ◌≤◌, ℕ, List}
use Rattle.disk_model.specs.Faults.{HasGrown}
use Rattle.disk_model.specs.History.{Change}
use Rattle.disk_model.specs.Moments.{Continues}

-- the disk is honest where it was, in both directions; what was done to it stays done; its count of faults doesn't fall
pub record IsLater {D : Type 0} (honest : D → Type 0) (history : D → List Change) (faults : D → ℕ) (old new : D) : Type 0 where
  pub honesty : honest old ↔ honest new
  pub done : honest old → Continues (history old) (history new)
  pub counted : faults old ≤ faults new

-- the same of two disks
pub record AreLater {D : Type 0} (honest : D → Type 0) (history : D → List Change) (faults : D
    → ℕ) (old_a old_b new_a new_b : D) : Type 0 where
  pub a : IsLater honest history faults old_a new_a
  pub b : IsLater honest history faults old_b new_b

-- one of two disks has failed since
abbrev pub HasFailed : {D : Type 0} → (D → ℕ) → D → D → D → D → Type 0
HasFailed faults old_a old_b new_a new_b = HasGrown (faults old_a) (faults new_a) ⊎ HasGrown (faults old_b) (faults new_b)
