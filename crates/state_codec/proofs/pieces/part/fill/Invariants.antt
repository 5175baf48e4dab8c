use Rattle.std.proofs.Common.{◌≡◌, ◌≤◌, ◌++◌, length, vec_capacity}
use Rattle.state_codec.proofs.pieces.part.fill.Given as goal

abbrev pub invariant-items : goal.invariant-items
invariant-items g l = record {
  parted : l.out.items ++ g.P.Part.left l.part ≡ g.P.Part.left l.fn.part;
  capacity : vec_capacity l.out ≡ vec_capacity l.fn.out;
  within : length l.out.items ≤ 65531;
}

abbrev pub decreases-items : goal.decreases-items
decreases-items g l = length (g.P.Part.left l.part)
