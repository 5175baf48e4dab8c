-- Numbers in two's complement, by their parts.
use Rattle.std.specs.Prelude.{ℕ, ◌^◌, ◌==◌, ℤ, pos, ◌-ℤ◌, if◌then◌else◌}

-- a number by its sign bit and its other bits
abbrev pub signed_from : ℕ → ℕ → ℕ → ℤ
signed_from low_bits sign low = if sign == 0 then pos low else pos low -ℤ pos (2 ^ low_bits)
