-- What an encoder may choose, and what it then writes of samples (RFC 9639, section 9).
use Rattle.std.specs.Prelude.{ℕ, zero, suc, ◌+◌, ◌-◌, ◌*◌, ◌/◌, ◌%◌, ◌^◌, Bool, true, false, List, [], ◌∷◌, ◌++◌, length, take, drop, map}
use Rattle.std.specs.Prelude.{replicate, reverse, ℤ, pos, negsuc, ◌-ℤ◌}
use Rattle.std.specs.List.{flat_map}
use Rattle.std.specs.Int.{int_shr}
use Rattle.flac_frames.specs.Bits.{bits_of_number}
use Rattle.flac_frames.specs.Prediction.{predicted, fixed_coefficients}

-- a number in two's complement
abbrev pub bits_of_signed : ℕ → ℤ → List Bool
bits_of_signed width (pos n) = bits_of_number width n
bits_of_signed width (negsuc n) = bits_of_number width (2 ^ width - 1 - n)

abbrev pub bits_of_each : ℕ → List ℤ → List Bool
bits_of_each width numbers = flat_map (bits_of_signed width) numbers

-- so many zeros, and a one
abbrev pub unary_bits : ℕ → List Bool
unary_bits n = replicate n false ++ true ∷ []

-- 0, -1, 1, -2, 2, .. are 0, 1, 2, 3, 4, ..
abbrev pub folded : ℤ → ℕ
folded (pos n) = 2 * n
folded (negsuc n) = 2 * n + 1

-- the Rice code of a residual by a parameter
abbrev pub rice_bits : ℕ → ℤ → List Bool
rice_bits parameter residual = unary_bits (folded residual / 2 ^ parameter) ++ bits_of_number parameter (folded residual % 2 ^ parameter)

-- how the residuals of a partition are coded: by a parameter, or as numbers of so many bits
pub data PartitionCode : Type 0 where
  Rice : ℕ → PartitionCode
  Escape : ℕ → PartitionCode

abbrev pub partition_bits : ℕ → PartitionCode → List ℤ → List Bool
partition_bits parameter_bits (Rice parameter) residuals =
    bits_of_number parameter_bits parameter ++ flat_map (rice_bits parameter) residuals
partition_bits parameter_bits (Escape width) residuals =
    bits_of_number parameter_bits (2 ^ parameter_bits - 1) ++ (bits_of_number 5 width ++ bits_of_each width residuals)

-- partitions of one size, each by its code
unfoldable pub partitions_bits : ℕ → ℕ → List PartitionCode → List ℤ → List Bool
partitions_bits parameter_bits size [] residuals = []
partitions_bits parameter_bits size (code ∷ codes) residuals =
    partition_bits parameter_bits code (take size residuals) ++ partitions_bits parameter_bits size codes (drop size residuals)

-- the method, the partition order, and the codes of the first partition and of the others
pub record ResidualChoice : Type 0 where
  pub method : ℕ
  pub order : ℕ
  pub first : PartitionCode
  pub others : List PartitionCode

-- how many residuals the first partition has, and each of the others
abbrev pub first_size : ResidualChoice → ℕ → ℕ → ℕ
first_size choice block_size warm_up = block_size / 2 ^ choice.order - warm_up

abbrev pub other_size : ResidualChoice → ℕ → ℕ
other_size choice block_size = block_size / 2 ^ choice.order

abbrev pub residual_bits : ResidualChoice → ℕ → ℕ → List ℤ → List Bool
residual_bits choice block_size warm_up residuals =
    bits_of_number 2 choice.method ++ (bits_of_number 4 choice.order
    ++ (partition_bits (4 + choice.method) choice.first (take (first_size choice block_size warm_up) residuals)
    ++ partitions_bits (4 + choice.method) (other_size choice block_size) choice.others (drop (first_size choice block_size warm_up) residuals)))

-- what a prediction by the samples before it lacks of each sample
unfoldable pub lacking : List ℤ → ℕ → List ℤ → List ℤ → List ℤ
lacking coefficients shift earlier [] = []
lacking coefficients shift earlier (sample ∷ samples) =
    (sample -ℤ predicted coefficients shift earlier) ∷ lacking coefficients shift (sample ∷ earlier) samples

abbrev pub residuals_by : List ℤ → ℕ → ℕ → List ℤ → List ℤ
residuals_by coefficients shift order samples = lacking coefficients shift (reverse (take order samples)) (drop order samples)

-- how the samples of a subframe are told
pub data Predictor : Type 0 where
  Constant : Predictor
  Verbatim : Predictor
  Fixed : ℕ → ResidualChoice → Predictor
  Linear : List ℤ → ℕ → ℕ → ResidualChoice → Predictor

abbrev pub kind_of : Predictor → ℕ
kind_of Constant = 0
kind_of Verbatim = 1
kind_of (Fixed order residuals) = 8 + order
kind_of (Linear coefficients precision shift residuals) = 31 + length coefficients

abbrev pub predictor_bits : Predictor → ℕ → List ℤ → List Bool
predictor_bits Constant width samples = bits_of_each width (take 1 samples)
predictor_bits Verbatim width samples = bits_of_each width samples
predictor_bits (Fixed order choice) width samples =
    bits_of_each width (take order samples)
    ++ residual_bits choice (length samples) order (residuals_by (fixed_coefficients order) 0 order samples)
predictor_bits (Linear coefficients precision shift choice) width samples =
    bits_of_each width (take (length coefficients) samples)
    ++ (bits_of_number 4 (precision - 1) ++ (bits_of_number 5 shift ++ (bits_of_each precision coefficients
    ++ residual_bits choice (length samples) (length coefficients) (residuals_by coefficients shift (length coefficients) samples))))

-- the predictor, and how many low bits, zeros in each sample, are left out
pub record SubframeChoice : Type 0 where
  pub predictor : Predictor
  pub wasted : ℕ

abbrev pub wasted_flag : ℕ → List Bool
wasted_flag zero = false ∷ []
wasted_flag (suc n) = true ∷ unary_bits n

abbrev pub narrowed : ℕ → ℤ → ℤ
narrowed wasted sample = int_shr sample wasted

abbrev pub subframe_bits : SubframeChoice → ℕ → List ℤ → List Bool
subframe_bits choice width samples =
    bits_of_number 7 (kind_of choice.predictor) ++ (wasted_flag choice.wasted
    ++ predictor_bits choice.predictor (width - choice.wasted) (map (narrowed choice.wasted) samples))
