use Rattle.std.proofs.Common.{◌∙◌, w64}
use Rattle.std.proofs.lemmas.Int.{to_z-of_z}
use Rattle.as_wave.proofs.Rounded.{moved_fits, moved_is}
use Rattle.as_wave.proofs.flac_samples.moved_up.Goals as goal

pub overflow_mul-from : goal.overflow_mul-from
overflow_mul-from c = moved_fits c.from.result c.args.sample c.args.bits c.requires c.ranges.sample (c.from.ensures ∙ to_z-of_z w64 c.args.sample c.ranges.sample)

pub returns : goal.returns
returns c = moved_is c.from.result c.args.sample c.clamp.result c.args.bits c.requires c.ranges.sample (c.from.ensures ∙ to_z-of_z w64 c.args.sample c.ranges.sample) c.clamp.ensures.value
