-- The numbers of a disk's refusals.
use Rattle.std.specs.Prelude.{ℕ}
use Rattle.disk_model.specs.declared.refusal.DiskError.{DiskError}
use Rattle.disk_model.specs.declared.refusal.DiskError.TheVariants.{DiskFault, OutOfRange}

abbrev pub number_of : DiskError → ℕ
number_of DiskFault = 1
number_of OutOfRange = 2
