-- A disk with a fuse.
use Rattle.std.specs.Prelude.{◌≡◌, ◌⊎◌, ℕ, ◌+◌, ◌-◌, ◌^◌, ◌≤◌, List, ◌∷◌, min, Result, IsErrOf}
use Rattle.disk_model.specs.declared.refusal.DiskError.{DiskError}
use Rattle.disk_model.specs.declared.refusal.DiskError.TheVariants.{DiskFault}
use Rattle.disk_model.specs.declared.fuse.Fuse.{Fuse}
use Rattle.disk_model.specs.declared.fuse.Fuse.TheVariants.{Stop, Fail}
use Rattle.disk_model.specs.declared.fuse.FuseDisk.{FuseDisk}
use Rattle.disk_model.specs.Faults.{HasGrown}
use Rattle.disk_model.specs.History.{Change}

-- the fuse fails this call, where the first is call 1
abbrev pub IsBlown : Fuse → ℕ → Type 0
IsBlown (Stop k) call = k ≤ call
IsBlown (Fail k) call = call ≡ k

-- the disk that is wrapped, and the fuse
abbrev pub inner_of : {D : Type 0} → FuseDisk D → D
inner_of disk = disk.inner

abbrev pub fuse_of : {D : Type 0} → FuseDisk D → Fuse
fuse_of disk = disk.fuse

-- how many calls were made
abbrev pub calls_of : {D : Type 0} → FuseDisk D → ℕ
calls_of disk = disk.calls

-- the next call's number
abbrev pub next_call : {D : Type 0} → FuseDisk D → ℕ
next_call disk = min (disk.calls + 1) (2 ^ 64 - 1)

-- its own faults and those of the disk in it
abbrev pub faults_of : {D : Type 0} → (D → ℕ) → FuseDisk D → ℕ
faults_of faults disk = min (disk.faults + faults disk.inner) (2 ^ 64 - 1)

-- A call is counted. One that the fuse has to fail fails; a fault comes only from the fuse or from the disk in it.
pub record ObeysFuse {D T : Type 0} (InRange : Type 0) (faults : D → ℕ) (old new : FuseDisk D) (result : Result T DiskError) : Type 0 where
  pub fuse : fuse_of new ≡ fuse_of old
  pub call : calls_of new ≡ next_call old
  pub blown : InRange → IsBlown (fuse_of old) (next_call old) → IsErrOf result DiskFault
  pub cause : IsErrOf result DiskFault → IsBlown (fuse_of old) (next_call old) ⊎ HasGrown (faults (inner_of old)) (faults (inner_of new))

-- a read or a sync that the fuse fails leaves the disk in it alone
abbrev pub IsHeldBack : {D : Type 0} → Type 0 → FuseDisk D → FuseDisk D → Type 0
IsHeldBack InRange old new = InRange → IsBlown (fuse_of old) (next_call old) → inner_of new ≡ inner_of old

-- a write or a cut that the fuse fails is made all the same, unless the disk in it fails too
abbrev pub IsMadeBlown : {D : Type 0} → Type 0 → Change → (D → List Change) → (D → ℕ) → FuseDisk D → FuseDisk D → Type 0
IsMadeBlown InRange change history faults old new = InRange → IsBlown (fuse_of old) (next_call old)
    → (history (inner_of new) ≡ change ∷ history (inner_of old)) ⊎ HasGrown (faults (inner_of old)) (faults (inner_of new))
