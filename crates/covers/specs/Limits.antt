-- The limits on pictures.
use Rattle.std.specs.Prelude.{ℕ}

-- how many bytes a picture may have
abbrev pub MAX_PICTURE_LEN : ℕ
MAX_PICTURE_LEN = 67108864

-- how many bytes of a picture are told at once
abbrev pub MAX_CHUNK_LEN : ℕ
MAX_CHUNK_LEN = 262144
