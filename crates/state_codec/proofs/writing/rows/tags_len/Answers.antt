use Rattle.std.proofs.Common.{◌≡◌, ◌<◌, ◌+◌, ◌++◌, [], length, take, refl, ap, ◌∙◌, arith}
use Rattle.std.specs.List.{flat_map}
use Rattle.std.proofs.lemmas.List.{length-append}
use Rattle.song_files.specs.Tags.{first_text}
use Rattle.song_db.specs.Row.{six_texts}
use Rattle.state_codec.specs.SpellingRows.{tag_bytes}
use Rattle.state_codec.proofs.RoomLaws.{more_items}
use Rattle.state_codec.proofs.TagLaws.{six_at}
use Rattle.state_codec.proofs.writing.rows.tags_len.Goals as goal

pub loop-number-preserved : goal.loop-number-preserved
loop-number-preserved c =
    let i = c.loop-number.number in
    let texts = six_texts c.args.tags.now in
    let text = first_text c.args.tags.now c.at.result in
    let front = flat_map tag_bytes (take i texts) in
    let lt : i < length texts = omega arith in
    let one : front ++ tag_bytes text ≡ [] ++ flat_map tag_bytes (take (i + 1) texts) =
    more_items tag_bytes [] front texts i text lt (six_at c.args.tags.now i c.at.result text (omega arith) c.at.ensures.tag) refl in
    (omega (arith, ap length one, length-append front (tag_bytes text), c.loop-number.invariant.0, c.tag_len-len.ensures.len), omega arith)

pub returns : goal.returns
returns c =
    let six : c.loop-number.number ≡ 6 = omega arith in
    record { len = c.loop-number.invariant.0 ∙ ap (λ n. length (flat_map tag_bytes (take n (six_texts c.args.tags.now)))) six; within = omega arith }
