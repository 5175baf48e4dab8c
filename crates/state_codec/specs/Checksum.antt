-- CRC-32C, the checksum of RFC 3720 (section 12.1): a polynomial division, by bits, each byte from its lowest bit on.
use Rattle.std.specs.Prelude.{◌≡◌, ℕ, zero, suc, ◌/◌, ◌%◌, ◌<◌, List, fold, slice_index, ◌==◌, if◌then◌else◌, bit_xor}

-- Castagnoli's polynomial, its bits from low to high
abbrev pub POLYNOMIAL : ℕ
POLYNOMIAL = 0x82f63b78

-- 32 ones, with which the sum begins, and which it is told with
abbrev pub ONES : ℕ
ONES = 0xffffffff

-- one bit goes, and where it is a one the polynomial is taken off
abbrev pub with_bit : ℕ → ℕ
with_bit sum = if sum % 2 == 1 then bit_xor (sum / 2) POLYNOMIAL else sum / 2

-- so many bits go
unfoldable pub with_bits : ℕ → ℕ → ℕ
with_bits zero sum = sum
with_bits (suc n) sum = with_bits n (with_bit sum)

-- what eight bits become, by their number
abbrev pub IsTable : List ℕ → Type 0
IsTable table = (n : ℕ) → n < 256 → slice_index table n ≡ with_bits 8 n

-- one byte more
abbrev pub with_byte : ℕ → ℕ → ℕ
with_byte sum byte = with_bits 8 (bit_xor sum byte)

-- the checksum of bytes, a number of 32 bits
abbrev pub checksum_of : List ℕ → ℕ
checksum_of bytes = bit_xor (fold with_byte ONES bytes) ONES
