use Rattle.std.proofs.Common.{◌≡◌, ◌∷◌, length, ap, subst, ◌∙◌, arith}
use Rattle.std.specs.List.{AllByRecursion, flat_map}
use Rattle.stickers.specs.Named.{Songs}
use Rattle.stickers.specs.Sticker.{flat}
use Rattle.state_codec.specs.Appended.{IsShortSticker}
use Rattle.state_codec.specs.Spelling.{sticker_bytes}
use Rattle.state_codec.proofs.SnapshotLaws.{short_stickers, stickers_bound, one_song_more, short_song}
use Rattle.state_codec.proofs.writing.lengths.stickers_len.Goals as goal

pub loop-uri-init : goal.loop-uri-init
loop-uri-init c =
    let all : flat c.into_iter-uri-iterator.result ≡ c.args.stickers.now = cc in
    let within = c.len-within.ensures.within in
    rw all (omega arith, (stickers_bound _ within, short_stickers _ within))

pub song_len-len-requires-clause-short : goal.song_len-len-requires-clause-short
song_len-len-requires-clause-short c =
    let front : c.loop-uri.uri-iterator ≡ (c.in-Some.uri.now, c.in-Some.song.now) ∷ c.next.new.self = c.in-Some.ensures.steps in
    let short = subst (λ (songs : Songs). AllByRecursion IsShortSticker (flat songs)) front c.loop-uri.invariant.1.1 in
    (short_song (c.in-Some.uri.now, c.in-Some.song.now) c.next.new.self short).0

pub loop-uri-preserved : goal.loop-uri-preserved
loop-uri-preserved c =
    let front : c.loop-uri.uri-iterator ≡ (c.in-Some.uri.now, c.in-Some.song.now) ∷ c.next.new.self = c.in-Some.ensures.steps in
    let short = subst (λ (songs : Songs). AllByRecursion IsShortSticker (flat songs)) front c.loop-uri.invariant.1.1 in
    let len = ap (λ (songs : Songs). length (flat_map sticker_bytes (flat songs))) front
    ∙ one_song_more (c.in-Some.uri.now, c.in-Some.song.now) c.next.new.self in (
      omega (arith, len, c.song_len-len.ensures, c.loop-uri.invariant.0),
      (c.loop-uri.invariant.1.0, (short_song (c.in-Some.uri.now, c.in-Some.song.now) c.next.new.self short).1),
    )
