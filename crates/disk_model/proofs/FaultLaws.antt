-- The count of faults over several calls.
use Rattle.std.proofs.Common.{ℕ, ◌≤◌, Result, Ok, Err, refl, arith}
use Rattle.std.specs.Prelude.{OnErr, IsErrOf}
use Rattle.disk_model.specs.declared.refusal.DiskError.{DiskError}
use Rattle.disk_model.specs.declared.refusal.DiskError.TheVariants.{DiskFault, OutOfRange}
use Rattle.disk_model.specs.Faults.{HasGrown, IsCounted}

-- calls before the fault
pub grown_before : (first before now : ℕ) → first ≤ before → HasGrown before now → HasGrown first now
grown_before first before now later grown below = omega (arith, grown below)

-- a call in range that fails is a fault
pub grown_in_range : {T : Type 0} (e : DiskError) (before now : ℕ) → (IsErrOf {T = T} (Err e) OutOfRange → ⊥)
    → IsCounted {T = T} before now (Err e) → HasGrown before now
grown_in_range DiskFault before now in_range counted = counted.fault refl
grown_in_range OutOfRange before now in_range counted = absurd (in_range refl)

pub on_err_of : {T E P : Type 0} (r : Result T E) → P → OnErr r P
on_err_of (Ok x) p = tt
on_err_of (Err e) p = p
