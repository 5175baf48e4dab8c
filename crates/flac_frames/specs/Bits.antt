-- Bits, the most significant first (RFC 9639, section 5).
use Rattle.std.specs.Prelude.{ℕ, zero, suc, ◌+◌, ◌-◌, ◌/◌, ◌%◌, ◌^◌, ◌==◌, Bool, true, false, List, [], ◌∷◌, ◌++◌, length, ℤ, pos, negsuc}
use Rattle.std.specs.Prelude.{nat_lt, if◌then◌else◌}

-- the lowest so many bits of a number
unfoldable pub bits_of_number : ℕ → ℕ → List Bool
bits_of_number zero x = []
bits_of_number (suc n) x = (x / 2 ^ n % 2 == 1) ∷ bits_of_number n x

-- the bits of bytes
unfoldable pub bits_of : List ℕ → List Bool
bits_of [] = []
bits_of (byte ∷ bytes) = bits_of_number 8 byte ++ bits_of bytes

-- the number that these bits write
unfoldable pub number_of : List Bool → ℕ
number_of [] = 0
number_of (bit ∷ bits) = (if bit then 2 ^ length bits else 0) + number_of bits

-- the number that they write in two's complement: the first bit tells the sign
unfoldable pub signed_of : List Bool → ℤ
signed_of [] = pos 0
signed_of (false ∷ bits) = pos (number_of bits)
signed_of (true ∷ bits) = negsuc (2 ^ length bits - 1 - number_of bits)

-- the number is one that so many bits write in two's complement
abbrev pub fits : ℕ → ℤ → Bool
fits width (pos n) = nat_lt n (2 ^ (width - 1))
fits width (negsuc n) = nat_lt n (2 ^ (width - 1))
