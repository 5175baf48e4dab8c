-- A disk over a real file: what it knows of the file.
use Rattle.std.specs.Prelude.{ℕ, Bool}
use Rattle.disk_model.specs.declared.file.FileDisk.{FileDisk}

-- the length that it last saw
abbrev pub length_of : {F : Type 0} → FileDisk F → ℕ
length_of disk = disk.len

-- how often a call has failed
abbrev pub file_faults : {F : Type 0} → FileDisk F → ℕ
file_faults disk = disk.faults

-- whether it refuses every call from now on
abbrev pub is_lost : {F : Type 0} → FileDisk F → Bool
is_lost disk = disk.is_lost
