-- One sample more.
use Rattle.std.proofs.Common.{◌≡◌, ◌∙◌, ap, arith, rules, true, get_or, pos}
use Rattle.std.proofs.lemmas.Int.{to_z-of_z}
use Rattle.std.proofs.lemmas.List.Elements.{All-get_or}
use Rattle.std.specs.Int.{w64}
use mir.Val.{SFits}
use Rattle.flac_frames.specs.Bits.{fits}
use Rattle.flac_frames.specs.Subframe.{widened}
use Rattle.flac_frames.proofs.Blocks.{widened_none, widened_more, same_at, rest_same}
use Rattle.flac_frames.proofs.Times.{fits_step}
use Rattle.flac_frames.proofs.subframe.widen.Goals as goal

pub returns-then-wasted-eq0-clause-value : goal.returns-then-wasted-eq0-clause-value
returns-then-wasted-eq0-clause-value c = rw c.if-wasted-eq0.true (widened_none c.args.out.now)

pub widen_sample-requires-clause-in_range : goal.widen_sample-requires-clause-in_range
widen_sample-requires-clause-in_range c =
    let f : SFits w64 (get_or c.loop-sample.out c.loop-sample.sample-index (pos 0)) = search rules in
    let e = same_at c.loop-sample.out c.args.out.now c.loop-sample.sample-index (pos 0) c.loop-sample.invariant.same in
    rw (to_z-of_z w64 _ f) (rw e (All-get_or (λ z. fits c.args.width z ≡ true) c.args.out.now c.loop-sample.sample-index (pos 0) (omega arith) c.requires.in_range))

pub loop-sample-preserved : goal.loop-sample-preserved
loop-sample-preserved c =
    let f : SFits w64 (get_or c.loop-sample.out c.loop-sample.sample-index (pos 0)) = search rules in
    let fr : SFits w64 c.widen_sample.result = search rules in
    let e = same_at c.loop-sample.out c.args.out.now c.loop-sample.sample-index (pos 0) c.loop-sample.invariant.same in
    let v = rw (to_z-of_z w64 (get_or c.loop-sample.out c.loop-sample.sample-index (pos 0)) f) at c.widen_sample.ensures.value in
    rw (to_z-of_z w64 c.widen_sample.result fr) (record {
      done = widened_more c.args.wasted c.loop-sample.out c.args.out.now c.loop-sample.sample-index c.widen_sample.result (omega arith) (omega arith) (v ∙ ap (widened c.args.wasted) e) c.loop-sample.invariant.done;
      same = rest_same c.loop-sample.out c.args.out.now c.loop-sample.sample-index c.widen_sample.result c.loop-sample.invariant.same;
      in_range = fits_step _ c.loop-sample.out c.loop-sample.sample-index c.widen_sample.result (omega arith) c.loop-sample.invariant.in_range c.widen_sample.ensures.in_range;
    })
