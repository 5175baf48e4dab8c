-- Sets of bytes.
use Rattle.std.specs.Prelude.{ℕ, Bool, true, false, not, nat_le, ◌&&◌, ◌||◌, List, if◌then◌else◌}
use Rattle.std.specs.Char.{to_ascii_lowercase, to_ascii_uppercase}
use Rattle.std.specs.List.{list_any}
use Rattle.regular_expr.specs.declared.byte_set.ByteRange.{ByteRange}

abbrev pub is_within : ℕ → ByteRange → Bool
is_within byte range = nat_le range.first byte && nat_le byte range.last

-- in one of the ranges
abbrev pub is_in_some : List ByteRange → ℕ → Bool
is_in_some ranges byte = list_any (is_within byte) ranges

-- the same; where the case doesn't count, of an ASCII letter one of its cases is
abbrev pub is_in_ranges : Bool → List ByteRange → ℕ → Bool
is_in_ranges false ranges byte = is_in_some ranges byte
is_in_ranges true ranges byte =
    is_in_some ranges byte || (is_in_some ranges (to_ascii_lowercase byte) || is_in_some ranges (to_ascii_uppercase byte))

-- the bytes in some ranges, or all others
pub record Bytes : Type 0 where
  pub negated : Bool
  pub ranges : List ByteRange

abbrev pub is_in : Bool → Bytes → ℕ → Bool
is_in fold set byte = if set.negated then not (is_in_ranges fold set.ranges byte) else is_in_ranges fold set.ranges byte
