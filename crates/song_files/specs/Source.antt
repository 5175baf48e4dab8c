-- What a source of bytes keeps, and when it has failed.
use Rattle.std.specs.Prelude.{◌≡◌, ℕ, ◌+◌, ◌≤◌, min, List}

-- A count of faults grew, or stands at 2^64-1.
abbrev pub Grows : ℕ → ℕ → Type 0
Grows old new = min (old + 1) 0xffff_ffff_ffff_ffff ≤ new

-- The source still tells its bytes, they are the same, and no fault is forgotten; a steady one stays steady.
pub record Keeps {S : Type 0} (bytes : S → List ℕ) (honest : S → Type 0) (faults : S → ℕ) (steady : S → Type 0) (old new : S) : Type 0 where
  pub is_honest : honest new
  pub same : bytes new ≡ bytes old
  pub counted : faults old ≤ faults new
  pub stays : steady old → steady new
