use Rattle.std.proofs.Common.{◌≡◌, ◌∙◌, [], string_bytes, ap}
use Rattle.stickers.specs.ByName.{by_name}
use Rattle.stickers.specs.Sticker.{flat, stickers_of, with_sticker}
use Rattle.stickers.proofs.ByName.{insert_entry-by_name, sorted-by_name}
use Rattle.stickers.proofs.Flat.{flat-with_first}
use Rattle.stickers.proofs.by_song.StickersBySong.set_first.Goals as goal

pub invariant_of-self-2 : goal.invariant_of-self-2
invariant_of-self-2 c = sorted-by_name _ c.in_ok-insert.ensures.ordered

pub returns-clause-ok : goal.returns-clause-ok
returns-clause-ok c =
    let songs = by_name c.self.inside.songs.entries in
    let empty : stickers_of (flat songs) c.args.uri.now ≡ [] = rw c.self.view_is c.requires.empty in
    ap (λ es. flat (by_name es)) c.in_ok-insert.ensures.entries
    ∙ ap flat (insert_entry-by_name c.self.inside.songs.entries c.in_ok-uri.uri c.in_ok-song.song)
    ∙ rw (c.in_ok-uri.ensures.ok, c.in_ok-song.ensures)
    (flat-with_first songs c.args.uri.now (string_bytes c.args.name) c.args.value c.self.invariant empty)
    ∙ ap (λ all. with_sticker all c.args.uri.now (string_bytes c.args.name) c.args.value) c.self.view_is
