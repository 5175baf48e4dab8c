-- The count of a disk's faults.
use Rattle.std.specs.Prelude.{◌≡◌, ℕ, ◌-◌, ◌^◌, ◌<◌, ◌≤◌, Result, OnOk, IsErrOf}
use Rattle.disk_model.specs.declared.refusal.DiskError.{DiskError}
use Rattle.disk_model.specs.declared.refusal.DiskError.TheVariants.{DiskFault, OutOfRange}

-- the count has grown, or stands at its end
abbrev pub HasGrown : ℕ → ℕ → Type 0
HasGrown before now = now < 2 ^ 64 - 1 → before < now

-- a fault is answered only where it was counted, and no other answer is counted
pub record IsCounted {T : Type 0} (before now : ℕ) (result : Result T DiskError) : Type 0 where
  pub later : before ≤ now
  pub fault : IsErrOf result DiskFault → HasGrown before now
  pub ok : OnOk result (now ≡ before)
  pub out_of_range : IsErrOf result OutOfRange → now ≡ before
