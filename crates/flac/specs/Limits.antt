-- The limits on heads.
use Rattle.std.specs.Prelude.{ℕ}

-- how many metadata blocks a file may have
abbrev pub MAX_BLOCKS : ℕ
MAX_BLOCKS = 65536

-- how many fields of a comment block are looked at
abbrev pub MAX_FIELDS : ℕ
MAX_FIELDS = 65536

-- how many bytes a field that is looked at may have
abbrev pub MAX_FIELD_BYTES : ℕ
MAX_FIELD_BYTES = 1024

-- how many comments are kept
abbrev pub MAX_COMMENTS : ℕ
MAX_COMMENTS = 256

-- how many pictures are kept
abbrev pub MAX_PICTURES : ℕ
MAX_PICTURES = 16

-- how many bytes the media type of a picture may have
abbrev pub MAX_MEDIA_TYPE_BYTES : ℕ
MAX_MEDIA_TYPE_BYTES = 255

-- the highest rate, in samples a second
abbrev pub MAX_RATE : ℕ
MAX_RATE = 192000

-- how many bytes a frame may have
abbrev pub MAX_FRAME_BYTES : ℕ
MAX_FRAME_BYTES = 589824
