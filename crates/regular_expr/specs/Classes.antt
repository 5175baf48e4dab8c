-- Classes of bytes, in brackets or behind a backslash.
use Rattle.std.specs.Prelude.{ℕ, zero, suc, ◌+◌, ◌*◌, ◌-◌, ◌==◌, ◌&&◌, ◌||◌, not, nat_le, nat_lt, Bool, true, false, List, [], ◌∷◌, ◌++◌, length}
use Rattle.std.specs.Prelude.{Option, Some, None, codes, if◌then◌else◌}
use Rattle.std.specs.Char.{is_ascii_alphanumeric}
use Rattle.std.specs.Str.{bytes_eq}
use Rattle.regular_expr.specs.declared.byte_set.ByteRange.{ByteRange}
use Rattle.regular_expr.specs.Counts.{◌>>=◌}
use Rattle.regular_expr.specs.Sets.{Bytes}

abbrev pub range : ℕ → ℕ → ByteRange
range first last = record { first = first; last = last }

abbrev pub alone : ℕ → List ByteRange
alone byte = range byte byte ∷ []

abbrev pub digits : List ByteRange
digits = range 48 57 ∷ []

abbrev pub words : List ByteRange
words = range 48 57 ∷ range 65 90 ∷ range 95 95 ∷ range 97 122 ∷ []

abbrev pub spaces : List ByteRange
spaces = range 9 13 ∷ range 32 32 ∷ []

-- The ranges of a letter behind a backslash: `d`, `w` and `s`, and by `D`, `W` and `S` all other bytes.
abbrev pub class_of : ℕ → Option (List ByteRange)
class_of b =
    if b == 100 then Some digits
    else (if b == 119 then Some words
    else (if b == 115 then Some spaces
    else (if b == 68 then Some (range 0 47 ∷ range 58 255 ∷ [])
    else (if b == 87 then Some (range 0 47 ∷ range 58 64 ∷ range 91 94 ∷ range 96 96 ∷ range 123 255 ∷ [])
    else (if b == 83 then Some (range 0 8 ∷ range 14 31 ∷ range 33 255 ∷ []) else None)))))

-- the byte that a letter behind a backslash stands for: `t`, `n`, `f`, `r`, `a`, `e`; what is no letter and no digit is itself
abbrev pub byte_of : ℕ → Option ℕ
byte_of b =
    if b == 116 then Some 9
    else (if b == 110 then Some 10
    else (if b == 102 then Some 12
    else (if b == 114 then Some 13
    else (if b == 97 then Some 7
    else (if b == 101 then Some 27 else (if is_ascii_alphanumeric b then None else Some b))))))

abbrev pub hex_digit : ℕ → Option ℕ
hex_digit b =
    if nat_le 48 b && nat_le b 57 then Some (b - 48)
    else (if nat_le 65 b && nat_le b 70 then Some (b - 55) else (if nat_le 97 b && nat_le b 102 then Some (b - 87) else None))

-- two digits, and what stands behind them
abbrev pub hex_at : List ℕ → Option (ℕ × List ℕ)
hex_at [] = None
hex_at (a ∷ []) = None
hex_at (a ∷ b ∷ text) = hex_digit a >>= λ high. hex_digit b >>= λ low. Some (high * 16 + low, text)

-- the byte behind a backslash, and what stands behind it
unfoldable pub escaped_at : List ℕ → Option (ℕ × List ℕ)
escaped_at [] = None
escaped_at (b ∷ text) = if b == 120 then hex_at text else (byte_of b >>= λ byte. Some (byte, text))

-- the ranges of the names that stand as `[:NAME:]` within brackets
abbrev pub named : List ℕ → Option (List ByteRange)
named name =
    if bytes_eq name (codes "alpha") then Some (range 65 90 ∷ range 97 122 ∷ [])
    else (if bytes_eq name (codes "digit") then Some digits
    else (if bytes_eq name (codes "alnum") then Some (range 48 57 ∷ range 65 90 ∷ range 97 122 ∷ [])
    else (if bytes_eq name (codes "upper") then Some (range 65 90 ∷ [])
    else (if bytes_eq name (codes "lower") then Some (range 97 122 ∷ [])
    else (if bytes_eq name (codes "space") then Some spaces
    else (if bytes_eq name (codes "punct") then Some (range 33 47 ∷ range 58 64 ∷ range 91 96 ∷ range 123 126 ∷ []) else None))))))

-- the name up to `:]`, and what stands behind that
unfoldable pub name_at : List ℕ → Option (List ℕ × List ℕ)
name_at [] = None
name_at (a ∷ []) = None
name_at (a ∷ b ∷ text) =
    if a == 58 && b == 93 then Some ([], text) else (name_at (b ∷ text) >>= λ x. Some (a ∷ x.0, x.1))

-- a backslash takes a closing bracket or a backslash with it
abbrev pub is_escaped : ℕ → ℕ → Bool
is_escaped a b = a == 92 && (b == 93 || b == 92)

-- a bracket closes, or one opens in front of this byte
abbrev pub is_bracket : ℕ → ℕ → ℕ → Bool
is_bracket mark a b = a == 93 || (a == 91 && b == mark)

-- this byte stands in front of a closing bracket
abbrev pub is_last : ℕ → ℕ → ℕ → Bool
is_last mark a b = a == mark && b == 93

-- this byte and a closing bracket end what stands in front, where no bracket closes and none opens before this byte
unfoldable pub is_enclosed : ℕ → List ℕ → Bool
is_enclosed mark [] = false
is_enclosed mark (a ∷ []) = false
is_enclosed mark (a ∷ b ∷ text) =
    if is_escaped a b then is_enclosed mark text
    else (if is_bracket mark a b then false else (if is_last mark a b then true else is_enclosed mark (b ∷ text)))

-- behind a bracket a colon, a point or an equals sign, which stand around a name
abbrev pub is_name_mark : ℕ → Bool
is_name_mark b = b == 58 || (b == 46 || b == 61)

abbrev pub begins_name : ℕ → List ℕ → Bool
begins_name b text = is_name_mark b && is_enclosed b text

-- what stands within brackets: a byte, or a class
pub data Item : Type 0 where
  Byte : ℕ → Item
  Class : List ByteRange → Item

-- behind a backslash; `b` is a backspace there
abbrev pub item_of : Option (List ByteRange) → ℕ → List ℕ → Option (Item × List ℕ)
item_of (Some ranges) b text = Some (Class ranges, text)
item_of None b text = if b == 98 then Some (Byte 8, text) else (escaped_at (b ∷ text) >>= λ x. Some (Byte x.0, x.1))

abbrev pub item_escaped : List ℕ → Option (Item × List ℕ)
item_escaped [] = None
item_escaped (b ∷ text) = item_of (class_of b) b text

-- a name between colons; other names aren't known
abbrev pub class_named : ℕ → List ℕ → Option (Item × List ℕ)
class_named b text =
    if b == 58 then (name_at text >>= λ x. named x.0 >>= λ ranges. Some (Class ranges, x.1)) else None

-- behind a bracket within brackets: a name; a bracket alone is a byte
abbrev pub item_named : List ℕ → Option (Item × List ℕ)
item_named [] = None
item_named (b ∷ text) = if begins_name b text then class_named b text else Some (Byte 91, b ∷ text)

unfoldable pub item_at : List ℕ → Option (Item × List ℕ)
item_at [] = None
item_at (b ∷ text) =
    if b == 92 then item_escaped text else (if b == 91 then item_named text else Some (Byte b, text))

-- a dash with no closing bracket behind it
abbrev pub is_dash : List ℕ → Bool
is_dash [] = false
is_dash (a ∷ []) = false
is_dash (a ∷ b ∷ text) = a == 45 && not (b == 93)

-- from a byte to another, which isn't lower
abbrev pub range_to : ℕ → Item → List ℕ → Option (List ByteRange × List ℕ)
range_to first (Class ranges) rest = None
range_to first (Byte last) rest = if nat_lt last first then None else Some (range first last ∷ [], rest)

abbrev pub behind_dash : List ℕ → List ℕ
behind_dash [] = []
behind_dash (a ∷ text) = text

-- a class, or a byte, or a byte and behind a dash the last of a range
abbrev pub ranges_from : Item → List ℕ → Option (List ByteRange × List ℕ)
ranges_from (Class ranges) rest = if is_dash rest then None else Some (ranges, rest)
ranges_from (Byte byte) rest =
    if is_dash rest then (item_at (behind_dash rest) >>= λ x. range_to byte x.0 x.1) else Some (alone byte, rest)

unfoldable pub ranges_at : List ℕ → Option (List ByteRange × List ℕ)
ranges_at text = item_at text >>= λ x. ranges_from x.0 x.1

-- the ranges behind these, up to the closing bracket; a text has no more of them than bytes
unfoldable pub more_ranges : ℕ → List ByteRange → List ℕ → Option (List ByteRange × List ℕ)
more_ranges zero ranges text = None
more_ranges (suc most) ranges [] = None
more_ranges (suc most) ranges (b ∷ text) =
    if b == 93 then Some (ranges, text) else (ranges_at (b ∷ text) >>= λ x. more_ranges most (ranges ++ x.0) x.1)

-- all of them; a closing bracket in front is a byte
unfoldable pub all_ranges : List ℕ → Option (List ByteRange × List ℕ)
all_ranges text = ranges_at text >>= λ x. more_ranges (length text) x.0 x.1

abbrev pub negated_set : Bool → List ByteRange × List ℕ → Bytes × List ℕ
negated_set negated x = (record { negated = negated; ranges = x.0 }, x.1)

-- what stands behind an opening bracket, and behind its closing one; a name stands within brackets alone
unfoldable pub set_at : List ℕ → Option (Bytes × List ℕ)
set_at [] = None
set_at (b ∷ text) =
    if b == 94 then (all_ranges text >>= λ x. Some (negated_set true x))
    else (if begins_name b text then None else (all_ranges (b ∷ text) >>= λ x. Some (negated_set false x)))
