-- Bytes written at an offset of a list.
use Rattle.std.proofs.Common.{◌≡◌, ℕ, ◌+◌, ◌<◌, ◌≤◌, max, List, length, get_or}
use Rattle.std.proofs.Common.{arith}
use Rattle.std.proofs.lemmas.Grind.{common_steps}
use Rattle.disk_model.specs.Calls.{overwritten}

pub length-overwritten : (old : List ℕ) (at : ℕ) (bytes : List ℕ) → at ≤ length old
    → length (overwritten old at bytes) ≡ max (length old) (at + length bytes)
length-overwritten old at bytes within = grind (arith, common_steps)

-- the other offsets keep their bytes
pub get_or-overwritten_before : (old : List ℕ) (at : ℕ) (bytes : List ℕ) (i d : ℕ) → at ≤ length old → i < at
    → get_or (overwritten old at bytes) i d ≡ get_or old i d
get_or-overwritten_before old at bytes i d within before = grind (arith, common_steps)

pub get_or-overwritten_after : (old : List ℕ) (at : ℕ) (bytes : List ℕ) (i d : ℕ) → at ≤ length old → at + length bytes ≤ i
    → get_or (overwritten old at bytes) i d ≡ get_or old i d
get_or-overwritten_after old at bytes i d within after = grind (arith, common_steps)
