use Rattle.std.proofs.Common.{◌≡◌, ◌++◌, ◌∷◌, ℕ, List, length, refl, ap, subst, ◌∙◌, append_assoc, sym, arith}
use Rattle.std.specs.List.{AllByRecursion, flat_map}
use Rattle.std.proofs.lemmas.List.{length-append}
use Rattle.stickers.specs.Named.{Songs, Values}
use Rattle.stickers.specs.Sticker.{flat, in_song}
use Rattle.state_codec.specs.Appended.{IsShortSticker}
use Rattle.state_codec.specs.Spelling.{sticker_bytes}
use Rattle.state_codec.proofs.SnapshotLaws.{short_stickers, one_song_more, song_first, short_song}
use Rattle.state_codec.proofs.writing.saved.put_all_stickers.Goals as goal

pub loop-uri-init : goal.loop-uri-init
loop-uri-init c =
    let all : flat c.into_iter-uri-iterator.result ≡ c.args.stickers.now = cc in
    rw all (refl, (refl, short_stickers _ c.len-within.ensures.within))

pub put_song-requires-clause-short : goal.put_song-requires-clause-short
put_song-requires-clause-short c =
    let song : List ℕ × Values = (c.in-Some.uri.now, c.in-Some.song.now) in
    let front : c.loop-uri.uri-iterator ≡ song ∷ c.next.new.self = c.in-Some.ensures.steps in
    (short_song song c.next.new.self (subst (λ (songs : Songs). AllByRecursion IsShortSticker (flat songs)) front
    c.loop-uri.invariant.1.1)).0

pub put_song-requires-clause-room : goal.put_song-requires-clause-room
put_song-requires-clause-room c =
    let song : List ℕ × Values = (c.in-Some.uri.now, c.in-Some.song.now) in
    let front : c.loop-uri.uri-iterator ≡ song ∷ c.next.new.self = c.in-Some.ensures.steps in
    let len = ap (λ (songs : Songs). length (flat_map sticker_bytes (flat songs))) front ∙ one_song_more song c.next.new.self in
    omega (
      arith,
      c.requires,
      c.loop-uri.out.ok.0,
      c.args.out.now.ok.0,
      c.loop-uri.invariant.1.0,
      ap length c.loop-uri.invariant.0,
      length-append c.loop-uri.out.items (flat_map sticker_bytes (flat c.loop-uri.uri-iterator)),
      length-append c.args.out.now.items (flat_map sticker_bytes c.args.stickers.now),
      len,
    )

pub loop-uri-preserved : goal.loop-uri-preserved
loop-uri-preserved c =
    let song : List ℕ × Values = (c.in-Some.uri.now, c.in-Some.song.now) in
    let front : c.loop-uri.uri-iterator ≡ song ∷ c.next.new.self = c.in-Some.ensures.steps in
    let short = subst (λ (songs : Songs). AllByRecursion IsShortSticker (flat songs)) front c.loop-uri.invariant.1.1 in
    let spelled : flat_map sticker_bytes (flat c.loop-uri.uri-iterator)
    ≡ flat_map sticker_bytes (in_song song) ++ flat_map sticker_bytes (flat c.next.new.self) =
    ap (λ (songs : Songs). flat_map sticker_bytes (flat songs)) front ∙ song_first song c.next.new.self in (
      ap (λ (bytes : List ℕ). bytes ++ flat_map sticker_bytes (flat c.next.new.self)) c.put_song.ensures.items
          ∙ append_assoc c.loop-uri.out.items (flat_map sticker_bytes (in_song song)) (flat_map sticker_bytes (flat c.next.new.self))
          ∙ ap (λ (bytes : List ℕ). c.loop-uri.out.items ++ bytes) (sym spelled)
          ∙ c.loop-uri.invariant.0,
      (c.put_song.ensures.capacity ∙ c.loop-uri.invariant.1.0, (short_song song c.next.new.self short).1),
    )
