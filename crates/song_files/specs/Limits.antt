-- The limits on the texts of tags.
use Rattle.std.specs.Prelude.{ℕ}

-- how many bytes the text of a tag may have
abbrev pub MAX_TAG_BYTES : ℕ
MAX_TAG_BYTES = 512

-- how many texts a song may have
abbrev pub MAX_TAGS : ℕ
MAX_TAGS = 255
