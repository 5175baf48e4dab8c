use Rattle.std.proofs.Common.{◌≡◌, ◌≤◌, ◌+◌, ◌*◌, length}
use Rattle.flac_frames.specs.Reading.{unary}
use Rattle.flac_frames.specs.Left.{left}
use Rattle.flac_frames.proofs.BitLists.{more_zeros}
use Rattle.flac_frames.proofs.bits.BitReader.unary_refilled.Given as goal

-- the zeros so far, and those that are left
abbrev pub invariant-loop-self : goal.invariant-loop-self
invariant-loop-self l = record {
  same : more_zeros l.zeros (unary (left l.self)) ≡ unary (left l.fn.self);
  counted : l.zeros + l.self.count + 8 * length l.self.rest.now ≤ 9223372036854775872;
}

abbrev pub decreases-loop-self : goal.decreases-loop-self
decreases-loop-self l = length l.self.rest.now
