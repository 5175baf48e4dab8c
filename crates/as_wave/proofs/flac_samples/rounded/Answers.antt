use Rattle.std.proofs.Common.{◌∙◌, w64}
use Rattle.std.proofs.lemmas.Int.{to_z-of_z}
use Rattle.as_wave.proofs.Rounded.{rounded_is}
use Rattle.as_wave.proofs.flac_samples.rounded.Goals as goal

pub returns : goal.returns
returns c = rounded_is c.from.result c.args.sample c.clamp.result c.args.bits c.requires.few c.ranges.sample (c.from.ensures ∙ to_z-of_z w64 c.args.sample c.ranges.sample) c.clamp.ensures.value
