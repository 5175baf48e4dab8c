-- The checks of a frame (RFC 9639, sections 9.1.8 and 9.3): the remainder of the bits' polynomial, behind which as many zeros
-- stand as the check has bits, by the check's polynomial.
use Rattle.std.specs.Prelude.{ℕ, ◌*◌, ◌/◌, ◌%◌, ◌^◌, ◌==◌, ◌-◌, Bool, true, false, not, List, [], ◌∷◌, if◌then◌else◌}
use Rattle.std.specs.Int.RustNames.{bit_xor}

-- two bits differ
abbrev pub differ : Bool → Bool → Bool
differ true bit = not bit
differ false bit = bit

-- One step of the division: the remainder moves up by one bit. Where the bit that it loses and the next bit differ, the
-- polynomial, without its highest term, is subtracted, which is addition here.
unfoldable pub divided : ℕ → ℕ → ℕ → Bool → ℕ
divided width polynomial remainder bit =
    let moved = remainder * 2 % 2 ^ width in
    if differ (remainder / 2 ^ (width - 1) % 2 == 1) bit then bit_xor moved polynomial else moved

unfoldable pub remainder_after : ℕ → ℕ → ℕ → List Bool → ℕ
remainder_after width polynomial remainder [] = remainder
remainder_after width polynomial remainder (bit ∷ bits) =
    remainder_after width polynomial (divided width polynomial remainder bit) bits

-- x^8 + x^2 + x + 1
unfoldable pub crc_8 : List Bool → ℕ
crc_8 bits = remainder_after 8 0x07 0 bits

-- x^16 + x^15 + x^2 + 1
unfoldable pub crc_16 : List Bool → ℕ
crc_16 bits = remainder_after 16 0x8005 0 bits
