-- The limits of the stickers.
use Rattle.std.specs.Prelude.{ℕ}

-- how many bytes a name may have
abbrev pub MAX_NAME_BYTES : ℕ
MAX_NAME_BYTES = 256

-- how many stickers there may be
abbrev pub MAX_STICKERS : ℕ
MAX_STICKERS = 65536

-- how many bytes a value may have
abbrev pub MAX_VALUE_BYTES : ℕ
MAX_VALUE_BYTES = 4096
