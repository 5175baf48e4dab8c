-- What was done to a disk.
use Rattle.std.specs.Prelude.{ℕ, List}

-- A write of so many bytes at an offset, a cut to a length, both of which may have failed, and a sync that succeeded
-- while a read gave these bytes. A history is a list of them, the newest first.
pub data Change : Type 0 where
  Wrote : (at count : ℕ) → Change
  CutTo : (len : ℕ) → Change
  Synced : (bytes : List ℕ) → Change
