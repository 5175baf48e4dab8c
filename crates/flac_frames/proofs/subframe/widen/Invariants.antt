use Rattle.std.proofs.Common.{◌≡◌, ◌+◌, take, drop, map}
use Rattle.flac_frames.specs.AllFit.{AllFit}
use Rattle.flac_frames.specs.Subframe.{widened}
use Rattle.flac_frames.proofs.subframe.widen.Given as goal

-- the samples so far are widened, the others as they were
abbrev pub invariant-loop-sample : goal.invariant-loop-sample
invariant-loop-sample l = record {
  done : take l.sample-index l.out ≡ map (widened l.wasted) (take l.sample-index l.fn.out);
  same : drop l.sample-index l.out ≡ drop l.sample-index l.fn.out;
  in_range : AllFit (l.width + l.wasted) (take l.sample-index l.out);
}
