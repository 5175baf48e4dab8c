-- One product more.
use Rattle.std.proofs.Common.{◌-◌, ◌∙◌, sym, refl, ap, arith, rules, length, get_or, reverse, pos, ◌+ℤ◌, ◌*ℤ◌}
use Rattle.std.proofs.lemmas.List.{get_or-reverse, length-reverse}
use Rattle.std.proofs.lemmas.Int.{to_z-of_z}
use Rattle.std.specs.Int.{w64}
use mir.Val.{SFits}
use Rattle.flac_frames.specs.Prediction.{weighted}
use Rattle.flac_frames.proofs.Predictions.{weighted_more}
use Rattle.flac_frames.proofs.prediction.weigh.Goals as goal

pub loop-j-init : goal.loop-j-init
unfolding weighted
loop-j-init c = record { value = refl; bound = omega arith }

pub loop-j-preserved : goal.loop-j-preserved
loop-j-preserved c =
    let fa : SFits w64 (get_or c.args.coefficients.now c.loop-j.j (pos 0)) = search rules in
    let fb : SFits w64 (get_or c.args.samples.now (length c.args.samples.now - 1 - c.loop-j.j) (pos 0)) = search rules in
    let fr : SFits w64 c.add_product-sum.result = search rules in
    let v = simp to_z-of_z at c.add_product-sum.ensures.value in
    let g = get_or-reverse c.args.samples.now c.loop-j.j (pos 0) (omega arith) in
    let w = weighted_more c.args.coefficients.now (reverse c.args.samples.now) c.loop-j.j (omega arith) (omega (arith, length-reverse c.args.samples.now)) in
    rw (to_z-of_z w64 c.add_product-sum.result fr) (record {
      value = v ∙ ap (λ z. z +ℤ get_or c.args.coefficients.now c.loop-j.j (pos 0) *ℤ get_or c.args.samples.now (length c.args.samples.now - 1 - c.loop-j.j) (pos 0)) c.loop-j.invariant.value ∙ sym (rw g at w);
      bound = omega (arith, c.add_product-sum.ensures.bound, c.loop-j.invariant.bound);
    })
