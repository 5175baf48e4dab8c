-- Which text a tag may have.
use Rattle.std.specs.Prelude.{ℕ, List, length, Option, Some, None, nat_lt, nat_le, ◌&&◌, not, Bool, if◌then◌else◌}
use Rattle.std.specs.List.{list_any}
use Rattle.std.specs.Str.{is_utf8, chars}
use Rattle.std.specs.Char.{is_control}
use Rattle.song_files.specs.Limits.{MAX_TAG_BYTES}

abbrev pub has_control : List ℕ → Bool
has_control text = list_any is_control (chars text)

-- 1 to 512 bytes of UTF-8 with no control character
abbrev pub is_tag_text : List ℕ → Bool
is_tag_text text = nat_lt 0 (length text) && nat_le (length text) MAX_TAG_BYTES && is_utf8 text && not (has_control text)

-- bytes, where they are such a text
abbrev pub text_or_none : List ℕ → Option (List ℕ)
text_or_none bytes = if is_tag_text bytes then Some bytes else None
