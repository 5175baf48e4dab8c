use Rattle.std.proofs.Common.{◌≡◌, ◌+◌, ◌*◌, ◌∙◌, ap, sym, length, min, slice_range, arith}
use Rattle.flac_frames.specs.Decoder.{samples_of}
use Rattle.flac.specs.Frames.{side_by_side}
use Rattle.flac.proofs.Decodings.{size_two}
use Rattle.flac.proofs.Turns.{two_are, one_is, none_are, nothing_there}
use Rattle.flac.proofs.side_by_side.copy_flat.Goals as goal

pub copy_two-requires-clause-within : goal.copy_two-requires-clause-within
copy_two-requires-clause-within c =
    let size : 2 * min (length c.in-Some-Some.left.now) (length c.in-Some-Some.right.now) ≡ length (side_by_side (samples_of c.args.decoder.now))
    = size_two (samples_of c.args.decoder.now) c.in-Some-Some.left.now c.in-Some-Some.right.now c.in-Some-Some.ensures c.in-Some-Some.ensures' in
    omega (arith, size, c.requires.within)

pub returns-in-Some-Some : goal.returns-in-Some-Some
returns-in-Some-Some c =
    c.copy_two.ensures ∙ ap (λ xs. slice_range xs c.args.place (c.args.place + length c.args.buffer.now)) (two_are
    (samples_of c.args.decoder.now) c.in-Some-Some.left.now c.in-Some-Some.right.now c.in-Some-Some.ensures c.in-Some-Some.ensures')

pub copy_one-requires : goal.copy_one-requires
copy_one-requires c =
    let size = ap length (one_is (samples_of c.args.decoder.now) c.in-Some-None.only.now c.in-Some-None.ensures c.in-Some-None.ensures') in
    omega (arith, size, c.requires.within)

pub returns-in-Some-None : goal.returns-in-Some-None
returns-in-Some-None c =
    c.copy_one.ensures ∙ ap (λ xs. slice_range xs c.args.place (c.args.place + length c.args.buffer.now)) (one_is
    (samples_of c.args.decoder.now) c.in-Some-None.only.now c.in-Some-None.ensures c.in-Some-None.ensures')

pub returns-in-None-default : goal.returns-in-None-default
returns-in-None-default c = nothing_there (side_by_side (samples_of c.args.decoder.now)) c.args.buffer.now c.args.place (none_are
    (samples_of c.args.decoder.now) c.in-None-default.ensures) c.requires.within
