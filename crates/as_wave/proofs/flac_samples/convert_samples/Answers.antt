use Rattle.std.proofs.Common.{◌≡◌, ◌*◌, ◌∙◌, [], ◌∷◌, get_or, arith, to_z, of_z, w16, w64, pos, sym, ap, rules}
use mir.Val.{SFits}
use Rattle.std.proofs.lemmas.Int.{ints, to_z-of_z}
use Rattle.as_wave.specs.FlacSamples.{from_bits}
use Rattle.as_wave.proofs.SampleList.{two_bytes}
use Rattle.as_wave.proofs.FlacSounds.{pushed_more}
use Rattle.as_wave.proofs.flac_samples.convert_samples.Goals as goal

pub loop-k-preserved : goal.loop-k-preserved
loop-k-preserved c =
    let within : SFits w64 (get_or c.args.samples.now c.loop-k.k (pos 0)) = search rules in
    let same = to_z-of_z w64 (get_or c.args.samples.now c.loop-k.k (pos 0)) within in
    let pair : two_bytes c.from_bits.result ≡ get_or c.to_le_bytes.result 0 0 ∷ get_or c.to_le_bytes.result 1 0 ∷ []
    = (let fits : to_z w16 (of_z w16 c.from_bits.result) ≡ c.from_bits.result = grind (arith, ints, to_z-of_z) in rw c.to_le_bytes.ensures (ap two_bytes (sym fits))) in
    pushed_more (from_bits c.args.bits) c.args.samples.now c.args.buffer.now c.loop-k.buffer c.loop-k.k _ _ c.from_bits.result (pos 0)
    (omega arith) (omega arith) c.loop-k.invariant (c.from_bits.ensures ∙ ap (from_bits c.args.bits) same) pair
