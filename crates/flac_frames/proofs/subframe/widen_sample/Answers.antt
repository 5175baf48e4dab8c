-- No bit is lost.
use Rattle.std.proofs.Common.{◌∙◌, ap, arith, pos, ◌*ℤ◌}
use Rattle.std.proofs.lemmas.Int.{to_z-of_z, to_z_pos}
use Rattle.std.specs.Int.{w64}
use mir.Val.{SFits}
use Rattle.flac_frames.proofs.Ranges.{widened_fits, widened_in_64, power_in_64}
use Rattle.flac_frames.proofs.subframe.widen_sample.Goals as goal

pub overflow_mul-result : goal.overflow_mul-result
overflow_mul-result c =
    let fs : SFits w64 c.args.sample = c.ranges.sample in
    let small = power_in_64 c.args.wasted c.power_of_two.result (omega arith) c.power_of_two.ensures in
    rw (to_z-of_z w64 c.args.sample fs, to_z_pos w64 c.power_of_two.result small)
    (widened_in_64 c.args.width c.args.wasted c.power_of_two.result c.args.sample c.requires.least c.requires.most c.power_of_two.ensures c.requires.in_range)

pub returns-clause-value : goal.returns-clause-value
returns-clause-value c =
    let fs : SFits w64 c.args.sample = c.ranges.sample in
    let small = power_in_64 c.args.wasted c.power_of_two.result (omega arith) c.power_of_two.ensures in
    let fp : SFits w64 (c.args.sample *ℤ pos c.power_of_two.result) = widened_in_64 c.args.width c.args.wasted c.power_of_two.result c.args.sample c.requires.least c.requires.most c.power_of_two.ensures c.requires.in_range in
    rw (to_z-of_z w64 c.args.sample fs, to_z_pos w64 c.power_of_two.result small) (to_z-of_z w64 _ fp ∙ ap (λ m. c.args.sample *ℤ pos m) c.power_of_two.ensures)

pub returns-clause-in_range : goal.returns-clause-in_range
returns-clause-in_range c =
    let fs : SFits w64 c.args.sample = c.ranges.sample in
    let small = power_in_64 c.args.wasted c.power_of_two.result (omega arith) c.power_of_two.ensures in
    let fp : SFits w64 (c.args.sample *ℤ pos c.power_of_two.result) = widened_in_64 c.args.width c.args.wasted c.power_of_two.result c.args.sample c.requires.least c.requires.most c.power_of_two.ensures c.requires.in_range in
    rw (to_z-of_z w64 c.args.sample fs, to_z_pos w64 c.power_of_two.result small) (rw (to_z-of_z w64 (c.args.sample *ℤ pos c.power_of_two.result) fp)
    (widened_fits c.args.width c.args.wasted c.power_of_two.result c.args.sample c.requires.least c.power_of_two.ensures c.requires.in_range))
