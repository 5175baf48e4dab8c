use Rattle.std.proofs.Common.{◌≡◌, ◌-◌, length, take}
use Rattle.flac_frames.specs.AllFit.{AllFit}
use Rattle.flac_frames.specs.Reading.{times, signed}
use Rattle.flac_frames.specs.Left.{left}
use Rattle.flac_frames.proofs.Times.{behind}
use Rattle.flac_frames.proofs.residual.read_signed.Given as goal

-- what was read, and what is left to read
abbrev pub invariant-loop-number : goal.invariant-loop-number
invariant-loop-number l = record {
  same : behind (take l.number-index l.out) (times (length l.fn.out - l.number-index) (signed l.width) (left l.reader))
      ≡ times (length l.fn.out) (signed l.width) (left l.fn.reader);
  in_range : AllFit l.width (take l.number-index l.out);
}
