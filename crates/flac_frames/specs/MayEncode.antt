-- Which choices an encoder may make of which samples.
use Rattle.std.specs.Prelude.{◌≡◌, ℕ, zero, suc, ◌+◌, ◌-◌, ◌/◌, ◌%◌, ◌^◌, ◌<◌, ◌≤◌, ◌==◌, Bool, true, false, List, [], ◌∷◌, length, take}
use Rattle.std.specs.Prelude.{drop, map, replicate, ℤ, pos, negsuc}
use Rattle.std.specs.List.{All}
use Rattle.flac_frames.specs.Bits.{fits}
use Rattle.flac_frames.specs.Prediction.{fixed_coefficients}
use Rattle.flac_frames.specs.Subframe.{widened}
use Rattle.flac_frames.specs.Choices.{PartitionCode, Rice, Escape, ResidualChoice, first_size, other_size, residuals_by, folded}
use Rattle.flac_frames.specs.Choices.{Predictor, Constant, Verbatim, Fixed, Linear, SubframeChoice, narrowed}

-- a number of so many bits; of none, zero
abbrev pub fits_escape : ℕ → ℤ → Bool
fits_escape zero (pos n) = n == 0
fits_escape zero (negsuc n) = false
fits_escape (suc width) number = fits (suc width) number

-- the parameter isn't the escape code, and each residual has 32 bits and isn't the least of them
abbrev pub MayCode : ℕ → PartitionCode → List ℤ → Type 0
MayCode parameter_bits (Rice parameter) residuals =
    (suc parameter < 2 ^ parameter_bits) × All (λ residual. suc (folded residual) < 2 ^ 32) residuals
MayCode parameter_bits (Escape width) residuals = (width < 32) × All (λ residual. fits_escape width residual ≡ true) residuals

abbrev pub MayCodeEach : ℕ → ℕ → List PartitionCode → List ℤ → Type 0
MayCodeEach parameter_bits size [] residuals = residuals ≡ []
MayCodeEach parameter_bits size (code ∷ codes) residuals =
    (size ≤ length residuals) × MayCode parameter_bits code (take size residuals) × MayCodeEach parameter_bits size codes (drop size residuals)

-- the block is cut into 2^order partitions of one size, the first of which lacks the warm-up samples
pub record MayCodeResiduals (choice : ResidualChoice) (block_size warm_up : ℕ) (residuals : List ℤ) : Type 0 where
  pub method : choice.method < 2
  pub order : choice.order < 16
  pub even : block_size % 2 ^ choice.order ≡ 0
  pub warm : warm_up ≤ block_size / 2 ^ choice.order
  pub others : suc (length choice.others) ≡ 2 ^ choice.order
  pub enough : first_size choice block_size warm_up ≤ length residuals
  pub first : MayCode (4 + choice.method) choice.first (take (first_size choice block_size warm_up) residuals)
  pub each : MayCodeEach (4 + choice.method) (other_size choice block_size) choice.others (drop (first_size choice block_size warm_up) residuals)

abbrev pub MayPredict : Predictor → ℕ → List ℤ → Type 0
MayPredict Constant width [] = ⊥
MayPredict Constant width (sample ∷ samples) = samples ≡ replicate (length samples) sample
MayPredict Verbatim width samples = Unit {0}
MayPredict (Fixed order choice) width samples =
    (order ≤ 4) × (order ≤ length samples)
    × MayCodeResiduals choice (length samples) order (residuals_by (fixed_coefficients order) 0 order samples)
MayPredict (Linear coefficients precision shift choice) width samples =
    (1 ≤ length coefficients) × (length coefficients ≤ 32) × (length coefficients ≤ length samples) × (1 ≤ precision) × (precision ≤ 15)
    × (shift < 16) × All (λ coefficient. fits precision coefficient ≡ true) coefficients
    × MayCodeResiduals choice (length samples) (length coefficients) (residuals_by coefficients shift (length coefficients) samples)

-- At least one bit of the width is coded, and what is left out are zeros.
pub record MayTell (choice : SubframeChoice) (width : ℕ) (samples : List ℤ) : Type 0 where
  pub some : choice.wasted < width
  pub zeros : All (λ sample. widened choice.wasted (narrowed choice.wasted sample) ≡ sample) samples
  pub predictor : MayPredict choice.predictor (width - choice.wasted) (map (narrowed choice.wasted) samples)
