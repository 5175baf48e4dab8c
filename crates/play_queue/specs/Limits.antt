-- The limits of a queue.
use Rattle.std.specs.Prelude.{ℕ}

-- how many entries there may be
abbrev pub MAX_ENTRIES : ℕ
MAX_ENTRIES = 65536

-- the greatest id
abbrev pub MAX_ID : ℕ
MAX_ID = 2147483647

-- the greatest version
abbrev pub MAX_VERSION : ℕ
MAX_VERSION = 2147483647

-- how many positions follow each other in a block
abbrev pub SPAN : ℕ
SPAN = 256

-- how many blocks have room for all entries that there may be
abbrev pub BLOCKS : ℕ
BLOCKS = 256
