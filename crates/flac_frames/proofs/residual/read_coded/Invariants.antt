use Rattle.std.proofs.Common.{◌≡◌, ◌-◌, length, take}
use Rattle.flac_frames.specs.AllFit.{AllFit}
use Rattle.flac_frames.specs.Reading.{times}
use Rattle.flac_frames.specs.Residual.{rice}
use Rattle.flac_frames.specs.Left.{left}
use Rattle.flac_frames.proofs.Times.{behind}
use Rattle.flac_frames.proofs.residual.read_coded.Given as goal

-- what was read, and what is left to read
abbrev pub invariant-loop-residual : goal.invariant-loop-residual
invariant-loop-residual l = record {
  same : behind (take l.residual-index l.out) (times (length l.fn.out - l.residual-index) (rice l.parameter) (left l.reader))
      ≡ times (length l.fn.out) (rice l.parameter) (left l.fn.reader);
  in_range : AllFit 33 (take l.residual-index l.out);
}
