-- The limits on what is read of a tag.
use Rattle.std.specs.Prelude.{ℕ}

-- how many frames of a tag are looked at
abbrev pub MAX_FRAMES : ℕ
MAX_FRAMES = 1024

-- how many texts a tag gives
abbrev pub MAX_TEXTS : ℕ
MAX_TEXTS = 256

-- how many bytes a text frame may have
abbrev pub MAX_TEXT_LEN : ℕ
MAX_TEXT_LEN = 65536

-- within how many bytes of its frame a picture begins
abbrev pub MAX_FRONT_LEN : ℕ
MAX_FRONT_LEN = 2048

-- how many bytes a tag that is unsynchronised as a whole may have
abbrev pub MAX_WHOLE_LEN : ℕ
MAX_WHOLE_LEN = 1048576

-- the sizes of tags and frames of 2.4 are below this one
abbrev pub MAX_SIZE : ℕ
MAX_SIZE = 268435456
