-- The limits of the stored playlists.
use Rattle.std.specs.Prelude.{ℕ}

-- how many bytes a name may have
abbrev pub MAX_NAME_BYTES : ℕ
MAX_NAME_BYTES = 256

-- how many playlists there may be
abbrev pub MAX_LISTS : ℕ
MAX_LISTS = 1024

-- how many entries they may have together
abbrev pub MAX_ENTRIES : ℕ
MAX_ENTRIES = 65536
