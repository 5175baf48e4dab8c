use Rattle.std.proofs.Common.{◌≡◌, ℕ, List, ◌∷◌, length, ap, ◌∙◌, arith}
use Rattle.std.specs.List.{flat_map}
use Rattle.std.proofs.lemmas.List.{length-append}
use Rattle.stickers.specs.Named.{Values}
use Rattle.stickers.specs.Sticker.{in_song, sticker}
use Rattle.state_codec.specs.Spelling.{sticker_bytes}
use Rattle.state_codec.proofs.SnapshotLaws.{one_more}
use Rattle.state_codec.proofs.writing.saved.put_song.Goals as goal

pub put_sticker-requires-clause-room : goal.put_sticker-requires-clause-room
put_sticker-requires-clause-room c =
    let uri = c.args.uri.now in
    let named : List ℕ × List ℕ = (c.in-Some.name.now, c.in-Some.value.now) in
    let front : c.loop-name.name-iterator ≡ named ∷ c.next.new.self = c.in-Some.ensures.steps in
    let len = ap (λ (values : Values). length (flat_map sticker_bytes (in_song (uri, values)))) front
    ∙ one_more sticker_bytes (sticker uri named) (in_song (uri, c.next.new.self)) in
    let value : c.as_str.result.now ≡ c.in-Some.value.now = c.as_str.ensures.text in
    rw value (omega (
      arith,
      c.requires.room,
      c.loop-name.out.ok.0,
      c.args.out.now.ok.0,
      c.loop-name.invariant.1.0,
      ap length c.loop-name.invariant.0,
      length-append c.loop-name.out.items (flat_map sticker_bytes (in_song (uri, c.loop-name.name-iterator))),
      length-append c.args.out.now.items (flat_map sticker_bytes (in_song (uri, c.args.song.now))),
      len,
    ))
