-- The names that channels may have, and lists of them.
use Rattle.std.specs.Prelude.{ℕ, Bool, not, ◌==◌, ◌&&◌, ◌||◌, nat_le, List, length, filter}
use Rattle.std.specs.Char.{is_ascii_alphanumeric}
use Rattle.std.specs.List.{list_all, list_any}
use Rattle.std.specs.Str.{bytes_eq}
use Rattle.client_messages.specs.Limits.{MAX_CHANNEL_BYTES}

-- a letter or digit of ASCII, `_`, `-`, `.` or `:`
abbrev pub is_name_byte : ℕ → Bool
is_name_byte byte = is_ascii_alphanumeric byte || (byte == 95) || (byte == 45) || (byte == 46) || (byte == 58)

-- 1 to 256 of these
abbrev pub is_channel_name : List ℕ → Bool
is_channel_name name = not (length name == 0) && (nat_le (length name) MAX_CHANNEL_BYTES && list_all is_name_byte name)

-- the channel is one of these
abbrev pub is_among : List ℕ → List (List ℕ) → Bool
is_among channel names = list_any (λ name. bytes_eq name channel) names

-- the others
abbrev pub without : List ℕ → List (List ℕ) → List (List ℕ)
without channel names = filter (λ name. not (bytes_eq name channel)) names
