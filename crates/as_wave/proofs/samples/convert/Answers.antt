use Rattle.std.proofs.Common.{◌≡◌, ◌*◌, [], ◌∷◌, drop, get_or, arith, ap, ◌∙◌, sym, to_z, of_z, w16}
use Rattle.std.proofs.lemmas.Int.{ints, to_z-of_z}
use Rattle.as_wave.specs.Format.{byte_len}
use Rattle.as_wave.specs.Samples.{sample_at, at_16}
use Rattle.as_wave.proofs.SampleList.{two_bytes, converted_more, rest_is}
use Rattle.as_wave.proofs.samples.convert.Goals as goal

pub loop-k-preserved : goal.loop-k-preserved
loop-k-preserved c =
    let value : c.sample_16.result ≡ at_16 c.args.width (sample_at c.args.width (drop (byte_len c.args.width * c.loop-k.k) c.args.raw.now))
    = c.sample_16.ensures ∙ ap (λ xs. at_16 c.args.width (sample_at c.args.width xs)) (rest_is c.args.raw.now (c.bytes-step.result * c.loop-k.k))
    ∙ ap (λ n. at_16 c.args.width (sample_at c.args.width (drop (n * c.loop-k.k) c.args.raw.now))) c.bytes-step.ensures in
    let pair : two_bytes c.sample_16.result ≡ get_or c.to_le_bytes.result 0 0 ∷ get_or c.to_le_bytes.result 1 0 ∷ []
    = (let fits : to_z w16 (of_z w16 c.sample_16.result) ≡ c.sample_16.result = grind (arith, ints, to_z-of_z) in rw c.to_le_bytes.ensures (ap two_bytes (sym fits))) in
    converted_more c.args.width c.args.raw.now c.args.buffer.now c.loop-k.buffer c.loop-k.k _ _ c.sample_16.result (omega arith)
    c.loop-k.invariant value pair
