-- The numbers of a tag, the most significant byte first.
use Rattle.std.specs.Prelude.{ℕ, ◌+◌, ◌*◌, ◌/◌, ◌%◌, ◌==◌, List, Bool, slice_index}

-- 32 bits from this byte on
abbrev pub plain_at : ℕ → List ℕ → ℕ
plain_at at bytes =
    ((slice_index bytes at * 256 + slice_index bytes (at + 1)) * 256 + slice_index bytes (at + 2)) * 256
    + slice_index bytes (at + 3)

-- 24 bits from this byte on
abbrev pub short_at : ℕ → List ℕ → ℕ
short_at at bytes = (slice_index bytes at * 256 + slice_index bytes (at + 1)) * 256 + slice_index bytes (at + 2)

-- a synchsafe number: seven bits a byte, in the four bytes from this one on
abbrev pub synchsafe_at : ℕ → List ℕ → ℕ
synchsafe_at at bytes =
    ((slice_index bytes at * 128 + slice_index bytes (at + 1)) * 128 + slice_index bytes (at + 2)) * 128
    + slice_index bytes (at + 3)

-- a flag of these, by what its bit counts
abbrev pub has_flag : ℕ → ℕ → Bool
has_flag flags bit = flags / bit % 2 == 1
