use Rattle.std.proofs.Common.{◌≡◌, ◌∙◌, [], ap, sym, Some}
use Rattle.stickers.specs.ByName.{by_name}
use Rattle.stickers.specs.Named.{under}
use Rattle.stickers.specs.Sticker.{flat}
use Rattle.stickers.proofs.ByName.{lookup-by_name, remove_entry-by_name, sorted-by_name}
use Rattle.stickers.proofs.Named.{remove_entry-without}
use Rattle.stickers.proofs.Flat.{flat-without_empty}
use Rattle.stickers.proofs.by_song.StickersBySong.drop_empty_song.Goals as goal
use Rattle.stickers.proofs.by_song.StickersBySong.drop_empty_song.Goals.{in-Some-1, in-None-1}

pub invariant_of-self : goal.invariant_of-self
invariant_of-self c = sorted-by_name _ c.remove.ensures.ordered

-- the song that went had no sticker
pub returns-then-is_empty : goal.returns-then-is_empty
returns-then-is_empty c =
    let songs = by_name c.self.inside.songs.entries in
    let empty : c.in-Some.song.now ≡ [] = c.is_empty.ensures.0 c.if-is_empty.true in
    let found : under songs c.args.uri.now ≡ Some [] =
    sym (c.in-Some.ensures.value ∙ lookup-by_name c.args.uri.now c.self.inside.songs.entries) ∙ ap (λ values. Some values) empty in
    let gone = ap (λ es. flat (by_name es)) c.remove.ensures.entries
    ∙ ap flat (remove_entry-by_name c.args.uri.now c.self.inside.songs.entries
    ∙ remove_entry-without songs c.args.uri.now c.self.invariant)
    ∙ flat-without_empty songs c.args.uri.now c.self.invariant found ∙ c.self.view_is in
    elim c.match-remove.branch [ in-Some-1 w ↦ rw w.self-is gone | in-None-1 w ↦ rw w.self-is gone ]
