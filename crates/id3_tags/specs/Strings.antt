-- The strings of a frame, in its encoding (ID3v2.4.0 structure, section 4).
use Rattle.std.specs.Prelude.{ℕ, ◌+◌, ◌*◌, ◌/◌, ◌%◌, ◌==◌, ◌||◌, List, [], ◌∷◌, Bool, true, false, map, Option, option_map, position}
use Rattle.std.specs.Prelude.{if◌then◌else◌}
use Rattle.std.specs.List.{slice_split}
use Rattle.std.specs.Str.{encode_utf8_all}
use Rattle.std.specs.Char.Utf16.{has_unpaired_surrogate, utf16_lossy_chars}
use Rattle.song_files.specs.Text.{is_tag_text}

-- a text as it is given out: one that isn't a tag's text is given as an empty one
abbrev pub kept : List ℕ → List ℕ
kept text = if is_tag_text text then text else []

-- 1 is UTF-16 with byte order marks, 2 UTF-16 with the high byte first
abbrev pub is_wide : ℕ → Bool
is_wide encoding = encoding == 1 || encoding == 2

-- the units of 16 bits, the high byte first; half a unit at the end counts for nothing
unfoldable pub wide_units : List ℕ → List ℕ
wide_units [] = []
wide_units (a ∷ []) = []
wide_units (a ∷ b ∷ bytes) = (a * 256 + b) ∷ wide_units bytes

-- 0 is ISO-8859-1, whose bytes are the units of UTF-16 with the same numbers
abbrev pub units_of : ℕ → List ℕ → List ℕ
units_of encoding bytes = if is_wide encoding then wide_units bytes else bytes

-- a unit with its bytes the other way round
abbrev pub swapped : ℕ → ℕ
swapped unit = unit % 256 * 256 + unit / 256

-- the low byte stands first behind this mark; where there is no mark, as in the string before
abbrev pub is_low_first : Bool → List ℕ → Bool
is_low_first before [] = before
is_low_first before (u ∷ units) = if u == 0xfffe then true else if u == 0xfeff then false else before

-- the units behind the mark
abbrev pub behind_mark : List ℕ → List ℕ
behind_mark [] = []
behind_mark (u ∷ units) = if u == 0xfffe || u == 0xfeff then units else u ∷ units

abbrev pub ordered : Bool → List ℕ → List ℕ
ordered true units = map swapped units
ordered false units = units

-- the text that units spell, in UTF-8; one with half a surrogate pair is no text
abbrev pub utf16_text : List ℕ → List ℕ
utf16_text units = if has_unpaired_surrogate units then [] else kept (encode_utf8_all (utf16_lossy_chars units))

-- the texts of strings of units
abbrev pub texts_by_order : Bool → List (List ℕ) → List (List ℕ)
texts_by_order low_first [] = []
texts_by_order low_first (s ∷ strings) =
    utf16_text (ordered (is_low_first low_first s) (behind_mark s)) ∷ texts_by_order (is_low_first low_first s) strings

-- strings stand one behind the other with a zero between them
abbrev pub strings_in : List ℕ → List (List ℕ)
strings_in units = slice_split (λ u. u == 0) units

-- the texts of the strings in these bytes: 3 is UTF-8
abbrev pub texts_in : ℕ → List ℕ → List (List ℕ)
texts_in encoding bytes =
    if encoding == 3 then map kept (strings_in bytes)
    else if is_wide encoding || encoding == 0 then texts_by_order false (strings_in (units_of encoding bytes))
    else []

-- how many bytes a unit has
abbrev pub width : ℕ → ℕ
width encoding = if is_wide encoding then 2 else 1

-- how many bytes the first string has, with the zero at its end
abbrev pub first_len : ℕ → List ℕ → Option ℕ
first_len encoding bytes = option_map (λ p. width encoding * (p + 1)) (position (λ u. u == 0) (units_of encoding bytes))
