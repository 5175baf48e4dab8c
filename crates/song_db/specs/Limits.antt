-- The limits of the database and of scans.
use Rattle.std.specs.Prelude.{ℕ}

-- how many bytes a URI may have
abbrev pub MAX_URI_BYTES : ℕ
MAX_URI_BYTES = 1024

-- how many rows the database may have
abbrev pub MAX_ROWS : ℕ
MAX_ROWS = 65536

-- how many changes an answer of a scan may have
abbrev pub MAX_CHANGES : ℕ
MAX_CHANGES = 64

-- how many bytes the texts of a row's tags may take where all of MPD's tags are known, with three more for each text
abbrev pub MAX_ROW_TAG_BYTES : ℕ
MAX_ROW_TAG_BYTES = 30000

-- how many folders a scanned song may stand in, counted from the root of the music
abbrev pub MAX_FOLDERS : ℕ
MAX_FOLDERS = 32
