use Rattle.std.proofs.Common.{◌≡◌, ◌≤◌, ◌*◌, ◌^◌, take, reverse}
use Rattle.std.specs.Int.RustNames.{unsigned_abs}
use Rattle.flac_frames.specs.Prediction.{weighted}
use Rattle.flac_frames.proofs.prediction.weigh.Given as goal

-- the sum so far
abbrev pub invariant-loop-j : goal.invariant-loop-j
invariant-loop-j l = record {
  value : l.sum ≡ weighted (take l.j l.coefficients) (reverse l.samples);
  bound : unsigned_abs l.sum ≤ l.j * 2 ^ 46;
}
