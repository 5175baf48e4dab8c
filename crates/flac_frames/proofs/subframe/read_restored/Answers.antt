-- The warm-up and the residuals are in range.
use Rattle.std.proofs.Common.{length, length-take, length-drop, arith, ℤ}
use Rattle.flac_frames.proofs.Partitions.{behind_fits}
use Rattle.flac_frames.proofs.subframe.read_restored.Goals as goal

pub restore-requires-clause-in_range : goal.restore-requires-clause-in_range
restore-requires-clause-in_range c =
    behind_fits (length c.args.coefficients.now) c.args.width c.args.out.now c.read_residuals.new.out c.requires.enough (omega (arith, length-take {A = ℤ}, length-drop {A = ℤ})) c.requires.most c.requires.warm_up c.in_ok-read_residuals.ensures.in_range
