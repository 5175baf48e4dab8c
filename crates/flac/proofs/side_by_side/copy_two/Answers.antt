use Rattle.std.proofs.Common.{◌≡◌, ◌≢◌, ◌+◌, ◌<◌, ◌≤◌, ◌∙◌, ap, length, arith, get_or-set_other, get_or-set_same, below_more}
use Rattle.std.proofs.Common.{to_z, of_z, w64, slice_range}
use Rattle.std.proofs.lemmas.Int.{ints, to_z-of_z}
use Rattle.flac.specs.Frames.{in_turn}
use Rattle.flac.proofs.Decodings.{length-in_turn}
use Rattle.flac.proofs.Turns.{turn_all}
use Rattle.flac.proofs.side_by_side.copy_two.Goals as goal

pub loop-k-preserved : goal.loop-k-preserved
loop-k-preserved c =
    let fits : to_z w64 (of_z w64 c.sample_at.result) ≡ c.sample_at.result = grind (arith, ints, to_z-of_z) in
    below_more _ _ (λ j h. let ne : j ≢ c.loop-k.k = omega arith in rw get_or-set_other (c.loop-k.invariant j h))
    (let lt : c.loop-k.k < length c.loop-k.buffer = omega arith in rw get_or-set_same (fits ∙ c.sample_at.ensures))

pub returns : goal.returns
returns c =
    let turns = in_turn c.args.left.now c.args.right.now in
    let long : c.args.place + length c.loop-k.buffer ≤ length (in_turn c.args.left.now c.args.right.now) = omega (
      arith,
      length-in_turn c.args.left.now c.args.right.now,
      c.requires.within,
      c.loop-k.auto.buffer,
    ) in
    turn_all turns c.loop-k.buffer c.args.place long (λ j h. c.loop-k.invariant j (omega (arith, c.loop-k.auto.buffer)))
    ∙ ap (λ n. slice_range turns c.args.place (c.args.place + n)) c.loop-k.auto.buffer
