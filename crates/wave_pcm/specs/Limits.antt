-- The limits on heads.
use Rattle.std.specs.Prelude.{ℕ}

-- the highest rate, in frames a second
abbrev pub MAX_RATE : ℕ
MAX_RATE = 192000
