-- Neither the product nor the sum overflows.
use Rattle.std.proofs.lemmas.Int.{to_z-of_z}
use Rattle.std.specs.Int.{w64}
use mir.Val.{SFits}
use Rattle.std.proofs.Common.{◌+ℤ◌, ◌*ℤ◌}
use Rattle.flac_frames.proofs.Ranges.{product_fits, sum_fits, sum_bound}
use Rattle.flac_frames.proofs.prediction.add_product.Goals as goal

pub returns-clause-value : goal.returns-clause-value
returns-clause-value c =
    let fa : SFits w64 c.args.sum = c.ranges.sum in
    let fb : SFits w64 c.args.coefficient = c.ranges.coefficient in
    let fc : SFits w64 c.args.sample = c.ranges.sample in
    let fp : SFits w64 (c.args.coefficient *ℤ c.args.sample) = product_fits c.args.coefficient c.args.sample c.requires.small c.requires.in_range in
    let fs : SFits w64 (c.args.sum +ℤ c.args.coefficient *ℤ c.args.sample) = sum_fits c.args.sum c.args.coefficient c.args.sample c.requires.small c.requires.in_range c.requires.bound in
    simp to_z-of_z

pub returns-clause-bound : goal.returns-clause-bound
returns-clause-bound c =
    let fa : SFits w64 c.args.sum = c.ranges.sum in
    let fb : SFits w64 c.args.coefficient = c.ranges.coefficient in
    let fc : SFits w64 c.args.sample = c.ranges.sample in
    let fp : SFits w64 (c.args.coefficient *ℤ c.args.sample) = product_fits c.args.coefficient c.args.sample c.requires.small c.requires.in_range in
    let fs : SFits w64 (c.args.sum +ℤ c.args.coefficient *ℤ c.args.sample) = sum_fits c.args.sum c.args.coefficient c.args.sample c.requires.small c.requires.in_range c.requires.bound in
    simp to_z-of_z (sum_bound c.args.sum c.args.coefficient c.args.sample c.requires.small c.requires.in_range)
