-- Texts as ops have them.
use Rattle.std.specs.Prelude.{ℕ, Bool, ◌&&◌, nat_le, List, length}
use Rattle.std.specs.Str.{is_utf8}
use Rattle.stickers.specs.Value.{is_good_value}

-- how many bytes a text may have
abbrev pub MAX_TEXT_BYTES : ℕ
MAX_TEXT_BYTES = 65535

-- at most 65,535 bytes of UTF-8
abbrev pub is_text : List ℕ → Bool
is_text text = is_utf8 text && nat_le (length text) MAX_TEXT_BYTES

-- the value of a sticker: at most 4,096 bytes of UTF-8
abbrev pub is_sticker_text : List ℕ → Bool
is_sticker_text text = is_utf8 text && is_good_value text
