-- One sample more.
use Rattle.std.proofs.Common.{◌≡◌, ◌∙◌, sym, refl, arith, rules, true, false, get_or, pos}
use Rattle.std.proofs.lemmas.Int.{to_z-of_z}
use Rattle.std.proofs.lemmas.List.Elements.{All-set}
use Rattle.std.specs.Int.{w64}
use mir.Val.{SFits}
use Rattle.flac_frames.specs.Bits.{fits}
use Rattle.flac_frames.specs.Prediction.{samples_from}
use Rattle.flac_frames.proofs.Predictions.{restored_more, restored_fault, restored_end}
use Rattle.flac_frames.proofs.Ranges.{fits_wider}
use Rattle.flac_frames.proofs.Times.{fits_step}
use Rattle.flac_frames.proofs.prediction.restore.Goals as goal

pub loop-i-init : goal.loop-i-init
unfolding samples_from
loop-i-init c = record { same = refl; all = c.requires.in_range; done = c.requires.warm_up }

pub returns-then-not-is_in_range-clause-restored : goal.returns-then-not-is_in_range-clause-restored
returns-then-not-is_in_range-clause-restored c =
    let fa : SFits w64 (get_or c.loop-i.samples c.loop-i.i (pos 0)) = search rules in
    let fs : SFits w64 c.weigh-sum.result = search rules in
    let fr : SFits w64 c.add_prediction-sample.result = search rules in
    let e = rw c.weigh-sum.ensures.value at (simp to_z-of_z at c.add_prediction-sample.ensures.value) in
    let ok : fits c.args.width c.add_prediction-sample.result ≡ false = sym (simp to_z-of_z at c.is_in_range.ensures) ∙ c.if-not-is_in_range.true in
    restored_fault c.args.width c.args.coefficients.now c.args.shift c.loop-i.samples c.loop-i.i c.add_prediction-sample.result _ (omega arith) e ok c.loop-i.invariant.same

pub loop-i-preserved : goal.loop-i-preserved
loop-i-preserved c =
    let fa : SFits w64 (get_or c.loop-i.samples c.loop-i.i (pos 0)) = search rules in
    let fs : SFits w64 c.weigh-sum.result = search rules in
    let fr : SFits w64 c.add_prediction-sample.result = search rules in
    let e = rw c.weigh-sum.ensures.value at (simp to_z-of_z at c.add_prediction-sample.ensures.value) in
    let ok : fits c.args.width c.add_prediction-sample.result ≡ true = sym (simp to_z-of_z at c.is_in_range.ensures) ∙ c.if-not-is_in_range.false in
    rw (to_z-of_z w64 c.add_prediction-sample.result fr) (record {
      same = restored_more c.args.width c.args.coefficients.now c.args.shift c.loop-i.samples c.loop-i.i c.add_prediction-sample.result _ (omega arith) e ok c.loop-i.invariant.same;
      all = All-set (λ sample. fits 33 sample ≡ true) c.loop-i.samples c.loop-i.i c.add_prediction-sample.result (fits_wider c.args.width 33 _ c.requires.most ok) c.loop-i.invariant.all;
      done = fits_step c.args.width c.loop-i.samples c.loop-i.i c.add_prediction-sample.result (omega arith) c.loop-i.invariant.done ok;
    })

pub returns-clause-restored : goal.returns-clause-restored
returns-clause-restored c =
    restored_end c.args.width c.args.coefficients.now c.args.shift c.loop-i.samples c.loop-i.i _ (omega arith) c.loop-i.invariant.same
