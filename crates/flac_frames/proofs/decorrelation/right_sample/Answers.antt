-- Nothing overflows.
use Rattle.std.proofs.Common.{refl, rules, ◌-ℤ◌}
use Rattle.std.proofs.lemmas.Int.{to_z-of_z}
use Rattle.std.specs.Int.{w64, int_shr}
use mir.Val.{SFits}
use Rattle.flac_frames.proofs.Ranges.{taken_fits, half_fits}
use Rattle.flac_frames.proofs.decorrelation.right_sample.Goals as goal

pub returns-in-MidSide : goal.returns-in-MidSide
returns-in-MidSide c =
    let fs : SFits w64 c.sum_with_side.result = search rules in
    let fa : SFits w64 c.args.first = c.ranges.first in
    let fc : SFits w64 c.args.second = c.ranges.second in
    let ft : SFits w64 (c.sum_with_side.result -ℤ c.args.second) = taken_fits c.sum_with_side.result c.args.second c.sum_with_side.ensures.bound c.requires.second_fits in
    let fh : SFits w64 (int_shr (c.sum_with_side.result -ℤ c.args.second) 1) = half_fits (c.sum_with_side.result -ℤ c.args.second) ft in
    let v = simp to_z-of_z at c.sum_with_side.ensures.value in
    rw c.in-MidSide.is (simp to_z-of_z (rw v refl))
