use Rattle.std.proofs.Common.{◌≡◌, ◌+◌, ◌*◌, [], ◌∷◌, get_or, arith, to_z, of_z, ap, ◌∙◌, w16}
use Rattle.std.proofs.lemmas.Int.{ints, to_z-of_z}
use Rattle.std.specs.Int.{from_le_bytes, cast_signed}
use Rattle.wave_pcm.proofs.FrameList.{decoded_more, decoded_all}
use Rattle.wave_pcm.proofs.frames.decode_into.Goals as goal

pub loop-k-preserved : goal.loop-k-preserved
loop-k-preserved c =
    let fits : to_z w16 (of_z w16 c.cast_signed.result) ≡ c.cast_signed.result = grind (arith, ints, to_z-of_z) in
    let value : c.cast_signed.result ≡ cast_signed w16 (from_le_bytes w16 (get_or c.args.bytes.now (2 * c.loop-k.k) 0 ∷ get_or
    c.args.bytes.now (2 * c.loop-k.k + 1) 0 ∷ []))
    = c.cast_signed.ensures ∙ ap (cast_signed w16) c.from_le_bytes.ensures in
    decoded_more c.args.bytes.now c.args.samples.now c.loop-k.samples c.loop-k.k _ c.requires c.loop-k-test.true c.loop-k.invariant
    (fits ∙ value)

pub returns : goal.returns
returns c = decoded_all c.args.bytes.now c.args.samples.now c.loop-k.samples c.loop-k.k c.requires (omega arith) c.loop-k.invariant
