-- The limits on open pictures.
use Rattle.std.specs.Prelude.{ℕ}

-- how many pictures stay open at most
abbrev pub MAX_OPEN : ℕ
MAX_OPEN = 16
