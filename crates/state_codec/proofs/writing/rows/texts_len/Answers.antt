use Rattle.std.proofs.Common.{◌≡◌, ◌<◌, ◌+◌, ◌++◌, [], length, take, get_or, refl, ap, arith}
use Rattle.std.specs.List.{flat_map}
use Rattle.std.proofs.lemmas.List.{length-append, get_or_default}
use Rattle.song_files.specs.Tags.{TagText}
use Rattle.song_files.specs.declared.tag.Tag.TheVariants.{Title}
use Rattle.state_codec.specs.SpellingRows.{numbered_bytes}
use Rattle.state_codec.proofs.RoomLaws.{more_items}
use Rattle.state_codec.proofs.writing.rows.texts_len.Goals as goal

pub loop-at-preserved : goal.loop-at-preserved
loop-at-preserved c =
    let i = c.loop-at.at in
    let tags = c.args.tags.now in
    let d : TagText = record { tag = Title; text = [] } in
    let t = get_or tags i d in
    let front = flat_map numbered_bytes (take i tags) in
    let lt : i < length tags = omega arith in
    let one : front ++ numbered_bytes t ≡ [] ++ flat_map numbered_bytes (take (i + 1) tags) =
    more_items numbered_bytes [] front tags i t lt (get_or_default tags i d t lt) refl in (
      omega (arith, ap length one, length-append front (numbered_bytes t), c.loop-at.invariant.0, c.numbered_len-len.ensures.len d),
      omega (arith, c.numbered_len-len.ensures.within),
    )
