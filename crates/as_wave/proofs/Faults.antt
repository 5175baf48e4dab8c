-- Faults of two kinds, counted together.
use Rattle.std.proofs.Common.{◌≡◌, ℕ, ◌+◌, ◌≤◌, min, arith}
use Rattle.song_files.specs.Source.{Grows}

-- a fault of the source
pub source_failed : (a b n : ℕ) → Grows a b → Grows (min (a + n) 0xffff_ffff_ffff_ffff) (min (b + n) 0xffff_ffff_ffff_ffff)
source_failed a b n more = omega arith

-- and one of a frame
pub frame_failed : (a b n m : ℕ) → a ≤ b → m ≡ min (n + 1) 0xffff_ffff_ffff_ffff
    → Grows (min (a + n) 0xffff_ffff_ffff_ffff) (min (b + m) 0xffff_ffff_ffff_ffff)
frame_failed a b n m stays more = omega arith
