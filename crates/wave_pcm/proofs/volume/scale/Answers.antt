use Rattle.std.proofs.Common.{◌≡◌, ◌<◌, get_or, length, pos, arith, to_z, of_z, ap, ◌∙◌, w16}
use Rattle.std.proofs.lemmas.Int.{ints, to_z-of_z}
use Rattle.std.proofs.lemmas.List.Edits.{map_over_more}
use Rattle.std.proofs.lemmas.List.{get_or_default}
use Rattle.wave_pcm.specs.Pcm.{at_volume}
use Rattle.wave_pcm.proofs.volume.scale.Goals as goal

pub loop-sample-preserved : goal.loop-sample-preserved
loop-sample-preserved c =
    let result_fits : to_z w16 (of_z w16 c.at_volume.result) ≡ c.at_volume.result = grind (arith, ints, to_z-of_z) in
    let sample_fits : to_z w16 (of_z w16 (get_or c.loop-sample.samples c.loop-sample.sample-index (pos 0))) ≡ get_or
    c.loop-sample.samples c.loop-sample.sample-index (pos 0) = grind (arith, ints, to_z-of_z) in
    let scaled : c.at_volume.result ≡ at_volume c.args.volume (get_or c.loop-sample.samples c.loop-sample.sample-index (pos 0)) =
    c.at_volume.ensures ∙ ap (at_volume c.args.volume) sample_fits in
    let stored : to_z w16 (of_z w16 c.at_volume.result) ≡ at_volume c.args.volume (get_or c.loop-sample.samples
    c.loop-sample.sample-index (pos 0)) = result_fits ∙ scaled in
    let within : c.loop-sample.sample-index < length c.loop-sample.samples = omega arith in
    rw stored (map_over_more (at_volume c.args.volume) c.args.samples.now c.loop-sample.samples c.loop-sample.sample-index _
    c.loop-sample-test.true c.loop-sample.invariant (get_or_default c.loop-sample.samples c.loop-sample.sample-index (pos 0) _ within))
