-- A subframe: the samples of one channel (RFC 9639, section 9.2).
use Rattle.std.specs.Prelude.{ℕ, ◌+◌, ◌-◌, ◌^◌, ◌==◌, ◌&&◌, List, map, replicate, ℤ, pos, ◌*ℤ◌, nat_lt, nat_le, if◌then◌else◌}
use Rattle.flac_frames.specs.Reading.{Reader, ◌>>=◌, giving, refusing, found, only_if, unsigned, signed, unary, times}
use Rattle.flac_frames.specs.Residual.{residuals}
use Rattle.flac_frames.specs.Prediction.{samples_from, fixed_coefficients}
use Rattle.flac_frames.specs.declared.refusal.FrameError.TheVariants.{Forbidden}

-- one value for the whole block
unfoldable pub constant : ℕ → ℕ → Reader (List ℤ)
constant width block_size = do
  sample ← signed width
  giving (replicate block_size sample)

-- samples as they are
unfoldable pub verbatim : ℕ → ℕ → Reader (List ℤ)
verbatim width block_size = times block_size (signed width)

-- the first samples, as many as the predictor's order, which no block has fewer than
unfoldable pub warm_up_of : ℕ → ℕ → ℕ → Reader (List ℤ)
warm_up_of width block_size order = if nat_le order block_size then times order (signed width) else refusing Forbidden

unfoldable pub fixed : ℕ → ℕ → ℕ → Reader (List ℤ)
fixed width block_size order = do
  warm_up ← warm_up_of width block_size order
  rest ← residuals block_size order
  found (samples_from width (fixed_coefficients order) 0 warm_up rest)

-- the coefficients have 1 to 15 bits
unfoldable pub precision : Reader ℕ
precision = do
  code ← unsigned 4
  only_if (nat_lt code 15) Forbidden (code + 1)

-- a number of five bits in two's complement that is not negative
unfoldable pub shift_right : Reader ℕ
shift_right = do
  shift ← unsigned 5
  only_if (nat_lt shift 16) Forbidden shift

unfoldable pub linear : ℕ → ℕ → ℕ → Reader (List ℤ)
linear width block_size order = do
  warm_up ← warm_up_of width block_size order
  coefficient_bits ← precision
  shift ← shift_right
  coefficients ← times order (signed coefficient_bits)
  rest ← residuals block_size order
  found (samples_from width coefficients shift warm_up rest)

-- section 9.2.1: a zero bit, and what kind of subframe it is
unfoldable pub kind_code : Reader ℕ
kind_code = do
  code ← unsigned 7
  only_if (nat_lt code 64) Forbidden code

unfoldable pub samples_of_kind : ℕ → ℕ → ℕ → Reader (List ℤ)
samples_of_kind kind width block_size =
    if kind == 0 then constant width block_size
    else if kind == 1 then verbatim width block_size
    else if nat_le 8 kind && nat_le kind 12 then fixed width block_size (kind - 8)
    else if nat_le 32 kind then linear width block_size (kind - 31)
    else refusing Forbidden

-- section 9.2.2: how many low bits of each sample are zeros that are not coded
unfoldable pub wasted_bits : Reader ℕ
wasted_bits = do
  flag ← unsigned 1
  (if flag == 0 then giving 0 else (do zeros ← unary; giving (zeros + 1)))

-- a sample with its wasted bits
abbrev pub widened : ℕ → ℤ → ℤ
widened wasted sample = sample *ℤ pos (2 ^ wasted)

-- The samples of a block, each of so many bits. At least one bit is not wasted.
unfoldable pub subframe : ℕ → ℕ → Reader (List ℤ)
subframe width block_size = do
  kind ← kind_code
  wasted ← wasted_bits
  coded ← only_if (nat_lt wasted width) Forbidden (width - wasted)
  samples ← samples_of_kind kind coded block_size
  giving (map (widened wasted) samples)
