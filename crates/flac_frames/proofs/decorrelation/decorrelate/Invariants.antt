use Rattle.std.proofs.Common.{◌≡◌, take, drop, true}
use Rattle.std.specs.List.{list_all}
use Rattle.flac_frames.specs.Bits.{fits}
use Rattle.flac_frames.specs.Decorrelation.{left_of, right_of, each_pair}
use Rattle.flac_frames.proofs.decorrelation.decorrelate.Given as goal

-- the samples so far are left and right, the others as they were
abbrev pub invariant-loop-i : goal.invariant-loop-i
invariant-loop-i l = record {
  left_done : take l.i l.left ≡ each_pair (left_of l.channels) (take l.i l.fn.left) (take l.i l.fn.right);
  right_done : take l.i l.right ≡ each_pair (right_of l.channels) (take l.i l.fn.left) (take l.i l.fn.right);
  left_same : drop l.i l.left ≡ drop l.i l.fn.left;
  right_same : drop l.i l.right ≡ drop l.i l.fn.right;
  left_fits : list_all (fits l.bits) (take l.i l.left) ≡ true;
  right_fits : list_all (fits l.bits) (take l.i l.right) ≡ true;
}
