use Rattle.std.proofs.Common.{◌≡◌, ◌+◌, ◌*◌, ◌<◌, length, arith, ap, ◌∙◌, to_z, of_z, w16}
use Rattle.std.proofs.lemmas.Int.{ints, to_z-of_z}
use Rattle.wave_pcm.specs.Pcm.{at_volume}
use Rattle.song_output.specs.Sound.{sample_bytes}
use Rattle.song_output.proofs.Samples.{kept_at_full, changed_more, changed_all}
use Rattle.song_output.proofs.scaling.scale_bytes.Goals as goal

pub returns-then-volume-eq-FULL : goal.returns-then-volume-eq-FULL
returns-then-volume-eq-FULL c = kept_at_full c.args.bytes.now c.args.volume c.if-volume-eq-FULL.true c.requires.whole c.type_inv.bytes

pub loop-k-preserved : goal.loop-k-preserved
loop-k-preserved c =
    let within : 2 * c.loop-k.k + 1 < length c.args.bytes.now = omega arith in
    let read : to_z w16 (of_z w16 c.from_le_bytes-sample.result) ≡ c.from_le_bytes-sample.result = grind (arith, ints, to_z-of_z) in
    let given : to_z w16 (of_z w16 c.scaled.result) ≡ c.scaled.result = grind (arith, ints, to_z-of_z) in
    changed_more (at_volume c.args.volume) c.loop-k.k c.to_le_bytes.result c.scaled.result c.args.bytes.now c.loop-k.bytes within c.loop-k.invariant
    (c.to_le_bytes.ensures ∙ ap sample_bytes given)
    (c.scaled.ensures ∙ ap (at_volume c.args.volume) (read ∙ c.from_le_bytes-sample.ensures))

pub returns : goal.returns
returns c = changed_all (at_volume c.args.volume) c.loop-k.k c.args.bytes.now c.loop-k.bytes c.requires.whole (omega arith) c.loop-k.invariant
