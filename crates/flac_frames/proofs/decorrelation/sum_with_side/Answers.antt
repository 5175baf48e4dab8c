-- Nothing overflows.
use Rattle.std.proofs.Common.{pos, ◌+ℤ◌, ◌-ℤ◌, ◌*ℤ◌}
use Rattle.std.proofs.lemmas.Int.{to_z-of_z}
use Rattle.std.specs.Int.{w64, int_shr}
use mir.Val.{SFits}
use Rattle.flac_frames.proofs.Ranges.{sum_parts}
use Rattle.flac_frames.proofs.decorrelation.sum_with_side.Goals as goal

pub overflow_add-result : goal.overflow_add-result
overflow_add-result c =
    let fm : SFits w64 c.args.mid = c.ranges.mid in
    let fs : SFits w64 c.args.side = c.ranges.side in
    let t = sum_parts c.args.mid c.args.side c.requires.mid_fits c.requires.side_fits in
    let f1 : SFits w64 (int_shr c.args.side 1) = t.half in
    let f2 : SFits w64 (pos 2 *ℤ int_shr c.args.side 1) = t.even in
    let f3 : SFits w64 (c.args.side -ℤ pos 2 *ℤ int_shr c.args.side 1) = t.lowest in
    let f4 : SFits w64 (pos 2 *ℤ c.args.mid) = t.double in
    let f5 : SFits w64 (pos 2 *ℤ c.args.mid +ℤ (c.args.side -ℤ pos 2 *ℤ int_shr c.args.side 1)) = t.total in
    simp to_z-of_z t.total

pub returns-clause-value : goal.returns-clause-value
returns-clause-value c =
    let fm : SFits w64 c.args.mid = c.ranges.mid in
    let fs : SFits w64 c.args.side = c.ranges.side in
    let t = sum_parts c.args.mid c.args.side c.requires.mid_fits c.requires.side_fits in
    let f1 : SFits w64 (int_shr c.args.side 1) = t.half in
    let f2 : SFits w64 (pos 2 *ℤ int_shr c.args.side 1) = t.even in
    let f3 : SFits w64 (c.args.side -ℤ pos 2 *ℤ int_shr c.args.side 1) = t.lowest in
    let f4 : SFits w64 (pos 2 *ℤ c.args.mid) = t.double in
    let f5 : SFits w64 (pos 2 *ℤ c.args.mid +ℤ (c.args.side -ℤ pos 2 *ℤ int_shr c.args.side 1)) = t.total in
    simp to_z-of_z

pub returns-clause-bound : goal.returns-clause-bound
returns-clause-bound c =
    let fm : SFits w64 c.args.mid = c.ranges.mid in
    let fs : SFits w64 c.args.side = c.ranges.side in
    let t = sum_parts c.args.mid c.args.side c.requires.mid_fits c.requires.side_fits in
    let f1 : SFits w64 (int_shr c.args.side 1) = t.half in
    let f2 : SFits w64 (pos 2 *ℤ int_shr c.args.side 1) = t.even in
    let f3 : SFits w64 (c.args.side -ℤ pos 2 *ℤ int_shr c.args.side 1) = t.lowest in
    let f4 : SFits w64 (pos 2 *ℤ c.args.mid) = t.double in
    let f5 : SFits w64 (pos 2 *ℤ c.args.mid +ℤ (c.args.side -ℤ pos 2 *ℤ int_shr c.args.side 1)) = t.total in
    simp to_z-of_z t.bound
