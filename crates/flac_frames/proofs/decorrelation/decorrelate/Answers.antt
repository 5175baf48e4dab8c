-- One pair more.
use Rattle.std.proofs.Common.{◌≡◌, ◌∙◌, sym, refl, arith, rules, true, false, ◌&&◌, get_or, pos}
use Rattle.std.proofs.lemmas.Bool.{and_parts}
use Rattle.std.proofs.lemmas.Int.{to_z-of_z}
use Rattle.std.proofs.lemmas.List.Elements.{All-get_or}
use Rattle.std.specs.Int.{w64}
use mir.Val.{SFits}
use Rattle.flac_frames.specs.Bits.{fits}
use Rattle.flac_frames.specs.Decorrelation.{left_of, right_of, each_pair}
use Rattle.flac_frames.proofs.Blocks.{same_at, rest_same}
use Rattle.flac_frames.proofs.Pairs.{pair_done, fits_done, stereo_fault, stereo_end}
use Rattle.flac_frames.proofs.decorrelation.decorrelate.Goals as goal

pub loop-i-init : goal.loop-i-init
unfolding each_pair
loop-i-init c = record { left_done = refl; right_done = refl; left_same = refl; right_same = refl; left_fits = refl; right_fits = refl }

pub left_sample-a-requires-clause-first_fits : goal.left_sample-a-requires-clause-first_fits
left_sample-a-requires-clause-first_fits c =
    let fl : SFits w64 (get_or c.loop-i.left c.loop-i.i (pos 0)) = search rules in
    let fr : SFits w64 (get_or c.loop-i.right c.loop-i.i (pos 0)) = search rules in
    let el = same_at c.loop-i.left c.args.left.now c.loop-i.i (pos 0) c.loop-i.invariant.left_same in
    let er = same_at c.loop-i.right c.args.right.now c.loop-i.i (pos 0) c.loop-i.invariant.right_same in
    rw (to_z-of_z w64 _ fl) (rw el (All-get_or (λ z. fits 33 z ≡ true) c.args.left.now c.loop-i.i (pos 0) (omega arith) c.requires.left_fits))

pub left_sample-a-requires-clause-second_fits : goal.left_sample-a-requires-clause-second_fits
left_sample-a-requires-clause-second_fits c =
    let fl : SFits w64 (get_or c.loop-i.left c.loop-i.i (pos 0)) = search rules in
    let fr : SFits w64 (get_or c.loop-i.right c.loop-i.i (pos 0)) = search rules in
    let el = same_at c.loop-i.left c.args.left.now c.loop-i.i (pos 0) c.loop-i.invariant.left_same in
    let er = same_at c.loop-i.right c.args.right.now c.loop-i.i (pos 0) c.loop-i.invariant.right_same in
    rw (to_z-of_z w64 _ fr) (rw er (All-get_or (λ z. fits 33 z ≡ true) c.args.right.now c.loop-i.i (pos 0) (omega arith) c.requires.right_fits))

pub right_sample-b-requires-clause-first_fits : goal.right_sample-b-requires-clause-first_fits
right_sample-b-requires-clause-first_fits c =
    let fl : SFits w64 (get_or c.loop-i.left c.loop-i.i (pos 0)) = search rules in
    let fr : SFits w64 (get_or c.loop-i.right c.loop-i.i (pos 0)) = search rules in
    let el = same_at c.loop-i.left c.args.left.now c.loop-i.i (pos 0) c.loop-i.invariant.left_same in
    let er = same_at c.loop-i.right c.args.right.now c.loop-i.i (pos 0) c.loop-i.invariant.right_same in
    rw (to_z-of_z w64 _ fl) (rw el (All-get_or (λ z. fits 33 z ≡ true) c.args.left.now c.loop-i.i (pos 0) (omega arith) c.requires.left_fits))

pub right_sample-b-requires-clause-second_fits : goal.right_sample-b-requires-clause-second_fits
right_sample-b-requires-clause-second_fits c =
    let fl : SFits w64 (get_or c.loop-i.left c.loop-i.i (pos 0)) = search rules in
    let fr : SFits w64 (get_or c.loop-i.right c.loop-i.i (pos 0)) = search rules in
    let el = same_at c.loop-i.left c.args.left.now c.loop-i.i (pos 0) c.loop-i.invariant.left_same in
    let er = same_at c.loop-i.right c.args.right.now c.loop-i.i (pos 0) c.loop-i.invariant.right_same in
    rw (to_z-of_z w64 _ fr) (rw er (All-get_or (λ z. fits 33 z ≡ true) c.args.right.now c.loop-i.i (pos 0) (omega arith) c.requires.right_fits))

pub returns-then-not-are_in_range : goal.returns-then-not-are_in_range
returns-then-not-are_in_range c =
    let fl : SFits w64 (get_or c.loop-i.left c.loop-i.i (pos 0)) = search rules in
    let fr : SFits w64 (get_or c.loop-i.right c.loop-i.i (pos 0)) = search rules in
    let el = same_at c.loop-i.left c.args.left.now c.loop-i.i (pos 0) c.loop-i.invariant.left_same in
    let er = same_at c.loop-i.right c.args.right.now c.loop-i.i (pos 0) c.loop-i.invariant.right_same in
    let fa : SFits w64 c.left_sample-a.result = search rules in
    let fb : SFits w64 c.right_sample-b.result = search rules in
    let a = rw (el, er) at (simp to_z-of_z at c.left_sample-a.ensures) in
    let b = rw (el, er) at (simp to_z-of_z at c.right_sample-b.ensures) in
    let no_fit : (fits c.args.bits c.left_sample-a.result && fits c.args.bits c.right_sample-b.result) ≡ false = sym (simp to_z-of_z at c.are_in_range.ensures) ∙ c.if-not-are_in_range.true in
    stereo_fault c.args.channels c.args.bits c.args.left.now c.args.right.now c.loop-i.i c.left_sample-a.result c.right_sample-b.result (omega arith) (omega arith) a b no_fit

pub loop-i-preserved : goal.loop-i-preserved
loop-i-preserved c =
    let fl : SFits w64 (get_or c.loop-i.left c.loop-i.i (pos 0)) = search rules in
    let fr : SFits w64 (get_or c.loop-i.right c.loop-i.i (pos 0)) = search rules in
    let el = same_at c.loop-i.left c.args.left.now c.loop-i.i (pos 0) c.loop-i.invariant.left_same in
    let er = same_at c.loop-i.right c.args.right.now c.loop-i.i (pos 0) c.loop-i.invariant.right_same in
    let fa : SFits w64 c.left_sample-a.result = search rules in
    let fb : SFits w64 c.right_sample-b.result = search rules in
    let a = rw (el, er) at (simp to_z-of_z at c.left_sample-a.ensures) in
    let b = rw (el, er) at (simp to_z-of_z at c.right_sample-b.ensures) in
    let ok : (fits c.args.bits c.left_sample-a.result && fits c.args.bits c.right_sample-b.result) ≡ true = sym (simp to_z-of_z at c.are_in_range.ensures) ∙ c.if-not-are_in_range.false in
    let both = and_parts (fits c.args.bits c.left_sample-a.result) (fits c.args.bits c.right_sample-b.result) ok in
    rw (to_z-of_z w64 c.left_sample-a.result fa, to_z-of_z w64 c.right_sample-b.result fb) (record {
      left_done = pair_done (left_of c.args.channels) c.loop-i.left c.args.left.now c.args.right.now c.loop-i.i c.left_sample-a.result (omega arith) (omega arith) (omega arith) a c.loop-i.invariant.left_done;
      right_done = pair_done (right_of c.args.channels) c.loop-i.right c.args.left.now c.args.right.now c.loop-i.i c.right_sample-b.result (omega arith) (omega arith) (omega arith) b c.loop-i.invariant.right_done;
      left_same = rest_same c.loop-i.left c.args.left.now c.loop-i.i c.left_sample-a.result c.loop-i.invariant.left_same;
      right_same = rest_same c.loop-i.right c.args.right.now c.loop-i.i c.right_sample-b.result c.loop-i.invariant.right_same;
      left_fits = fits_done c.args.bits c.loop-i.left c.loop-i.i c.left_sample-a.result (omega arith) both.0 c.loop-i.invariant.left_fits;
      right_fits = fits_done c.args.bits c.loop-i.right c.loop-i.i c.right_sample-b.result (omega arith) both.1 c.loop-i.invariant.right_fits;
    })

pub returns : goal.returns
returns c =
    stereo_end c.args.channels c.args.bits c.loop-i.left c.loop-i.right c.args.left.now c.args.right.now c.loop-i.i (omega arith) (omega arith) c.requires.same (omega arith)
    c.loop-i.invariant.left_done c.loop-i.invariant.right_done c.loop-i.invariant.left_fits c.loop-i.invariant.right_fits
