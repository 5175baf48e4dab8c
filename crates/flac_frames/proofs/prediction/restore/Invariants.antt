use Rattle.std.proofs.Common.{◌≡◌, take, drop, reverse, length}
use Rattle.flac_frames.specs.AllFit.{AllFit}
use Rattle.flac_frames.specs.Prediction.{samples_from, restored, joined}
use Rattle.flac_frames.proofs.prediction.restore.Given as goal

-- the samples so far, and those that are to be restored behind them
abbrev pub invariant-loop-i : goal.invariant-loop-i
invariant-loop-i l = record {
  same : joined (take l.i l.samples) (restored l.width l.coefficients l.shift (reverse (take l.i l.samples)) (drop l.i l.samples))
      ≡ samples_from l.width l.coefficients l.shift (take (length l.coefficients) l.fn.samples) (drop (length l.coefficients) l.fn.samples);
  all : AllFit 33 l.samples;
  done : AllFit l.width (take l.i l.samples);
}
