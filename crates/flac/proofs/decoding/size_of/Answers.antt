use Rattle.std.proofs.Common.{◌*◌, ◌∙◌, ap}
use Rattle.flac_frames.specs.Decoder.{samples_of}
use Rattle.flac.proofs.Decodings.{size_two}
use Rattle.flac.proofs.decoding.size_of.Goals as goal

pub returns-in-Some-Some : goal.returns-in-Some-Some
returns-in-Some-Some c = ap (λ n. 2 * n) c.min.ensures
    ∙ size_two (samples_of c.args.decoder.now) c.in-Some-Some.left.now c.in-Some-Some.right.now c.in-Some-Some.ensures c.in-Some-Some.ensures'
