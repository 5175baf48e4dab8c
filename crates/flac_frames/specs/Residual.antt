-- Coded residuals (RFC 9639, section 9.2.7).
use Rattle.std.specs.Prelude.{ℕ, zero, suc, ◌+◌, ◌-◌, ◌*◌, ◌/◌, ◌%◌, ◌^◌, ◌==◌, ◌&&◌, List, [], ◌++◌, ℤ, pos, negsuc, nat_lt, nat_le}
use Rattle.std.specs.Prelude.{if◌then◌else◌}
use Rattle.flac_frames.specs.Reading.{Reader, ◌>>=◌, giving, only_if, unsigned, signed, unary, times}
use Rattle.flac_frames.specs.declared.refusal.FrameError.TheVariants.{Forbidden, TooLarge}

-- even codes are 0, 1, 2, .., odd ones -1, -2, ..
unfoldable pub unfolded : ℕ → ℤ
unfolded code = if code % 2 == 0 then pos (code / 2) else negsuc (code / 2)

-- a residual has 32 bits in two's complement, and is not the least of them
unfoldable pub residual_of : ℕ → Reader ℤ
residual_of code = only_if (nat_lt code (2 ^ 32 - 1)) TooLarge (unfolded code)

-- a Rice code: the quotient in unary, the remainder in so many bits
unfoldable pub rice : ℕ → Reader ℤ
rice parameter = do
  quotient ← unary
  remainder ← unsigned parameter
  residual_of (quotient * 2 ^ parameter + remainder)

-- a partition with the escape code: its residuals stand as numbers of so many bits, with 0 bits as zeros
unfoldable pub escaped : ℕ → Reader (List ℤ)
escaped count = do
  width ← unsigned 5
  times count (signed width)

-- so many residuals under one parameter, of 4 or 5 bits; all ones are the escape code
unfoldable pub partition : ℕ → ℕ → Reader (List ℤ)
partition parameter_bits count = do
  parameter ← unsigned parameter_bits
  (if parameter == 2 ^ parameter_bits - 1 then escaped count else times count (rice parameter))

-- so many partitions of so many residuals each
unfoldable pub partitions : ℕ → ℕ → ℕ → Reader (List ℤ)
partitions parameter_bits zero count = giving []
partitions parameter_bits (suc n) count = do
  front ← partition parameter_bits count
  back ← partitions parameter_bits n count
  giving (front ++ back)

-- the coding method: 0 for parameters of 4 bits, 1 for 5
unfoldable pub parameter_width : Reader ℕ
parameter_width = do
  method ← unsigned 2
  only_if (nat_lt method 2) Forbidden (4 + method)

-- The block is cut into 2^n partitions of one size. The first lacks the warm-up samples.
unfoldable pub partition_order : ℕ → ℕ → Reader ℕ
partition_order block_size warm_up = do
  n ← unsigned 4
  only_if (block_size % 2 ^ n == 0 && nat_le warm_up (block_size / 2 ^ n)) Forbidden n

unfoldable pub residuals : ℕ → ℕ → Reader (List ℤ)
residuals block_size warm_up = do
  parameter_bits ← parameter_width
  n ← partition_order block_size warm_up
  front ← partition parameter_bits (block_size / 2 ^ n - warm_up)
  back ← partitions parameter_bits (2 ^ n - 1) (block_size / 2 ^ n)
  giving (front ++ back)
