-- A block behind its warm-up samples.
use Rattle.std.specs.Prelude.{ℕ, List, length, ℤ}
use Rattle.flac_frames.specs.Reading.{Reader, ◌>>=◌, found}
use Rattle.flac_frames.specs.Residual.{residuals}
use Rattle.flac_frames.specs.Prediction.{samples_from}

-- its residuals, and the samples that they restore
unfoldable pub restored_block : ℕ → List ℤ → ℕ → List ℤ → ℕ → Reader (List ℤ)
restored_block width coefficients shift warm_up block_size = do
  rest ← residuals block_size (length coefficients)
  found (samples_from width coefficients shift warm_up rest)
