-- Which values a sticker may have.
use Rattle.std.specs.Prelude.{ℕ, Bool, nat_le, List, length}
use Rattle.stickers.specs.Limits.{MAX_VALUE_BYTES}

-- at most 4,096 bytes
abbrev pub is_good_value : List ℕ → Bool
is_good_value value = nat_le (length value) MAX_VALUE_BYTES
