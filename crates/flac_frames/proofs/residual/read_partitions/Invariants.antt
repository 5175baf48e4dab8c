use Rattle.std.proofs.Common.{◌≡◌, ◌-◌, ◌*◌, take}
use Rattle.flac_frames.specs.AllFit.{AllFit}
use Rattle.flac_frames.specs.Residual.{partitions}
use Rattle.flac_frames.specs.Left.{left}
use Rattle.flac_frames.proofs.Times.{behind}
use Rattle.flac_frames.proofs.residual.read_partitions.Given as goal

-- what was read, and what is left to read
abbrev pub invariant-loop-i : goal.invariant-loop-i
invariant-loop-i l = record {
  same : behind (take (l.i * l.size) l.out) (partitions l.parameter_bits (l.count - l.i) l.size (left l.reader))
      ≡ partitions l.parameter_bits l.count l.size (left l.fn.reader);
  in_range : AllFit 33 (take (l.i * l.size) l.out);
}
