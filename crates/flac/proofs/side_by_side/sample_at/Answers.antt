use Rattle.std.proofs.Common.{◌≡◌, ◌/◌, ◌%◌, ◌∙◌, slice_index_or, pos, to_z, of_z, w64, arith, rules}
use Rattle.std.proofs.lemmas.Int.{ints, to_z-of_z}
use Rattle.flac.proofs.Turns.{turn_left, turn_right}
use mir.Val.{SFits}
use Rattle.flac.proofs.side_by_side.sample_at.Goals as goal

pub returns-then-number-eq0 : goal.returns-then-number-eq0
returns-then-number-eq0 c =
    let fits : SFits w64 (slice_index_or c.args.left.now (c.args.number / 2) (pos 0)) = search rules in
    let even : c.args.number % 2 ≡ 0 = omega arith in
    to_z-of_z w64 (slice_index_or c.args.left.now (c.args.number / 2) (pos 0)) fits
    ∙ turn_left c.args.left.now c.args.right.now c.args.number (pos 0) c.requires even

pub returns-else-number-eq0 : goal.returns-else-number-eq0
returns-else-number-eq0 c =
    let fits : SFits w64 (slice_index_or c.args.right.now (c.args.number / 2) (pos 0)) = search rules in
    let odd : c.args.number % 2 ≡ 1 = omega arith in
    to_z-of_z w64 (slice_index_or c.args.right.now (c.args.number / 2) (pos 0)) fits
    ∙ turn_right c.args.left.now c.args.right.now c.args.number (pos 0) c.requires odd
