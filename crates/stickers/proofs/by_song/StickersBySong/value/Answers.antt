use Rattle.std.proofs.Common.{◌≡◌, ◌∙◌, ap, sym, Some, None}
use Rattle.stickers.specs.ByName.{by_name}
use Rattle.stickers.specs.Named.{under}
use Rattle.stickers.specs.Sticker.{value_at}
use Rattle.stickers.proofs.ByName.{lookup-by_name}
use Rattle.stickers.proofs.Flat.{no_value, flat-value_at}
use Rattle.stickers.proofs.by_song.StickersBySong.value.Goals as goal

pub returns-in-Some : goal.returns-in-Some
returns-in-Some c =
    let songs = by_name c.self.inside.songs.entries in
    let found : under songs c.args.uri.now ≡ Some c.in-Some.song.now =
    sym (c.in-Some.ensures.value ∙ lookup-by_name c.args.uri.now c.self.inside.songs.entries) in
    c.get-in-Some.ensures.value ∙ sym (flat-value_at songs c.args.uri.now c.args.name.now c.in-Some.song.now c.self.invariant found)
    ∙ ap (λ all. value_at all c.args.uri.now c.args.name.now) c.self.view_is

pub returns-in-None : goal.returns-in-None
returns-in-None c =
    let songs = by_name c.self.inside.songs.entries in
    let none : under songs c.args.uri.now ≡ None =
    sym (c.in-None.ensures.value ∙ lookup-by_name c.args.uri.now c.self.inside.songs.entries) in
    sym (no_value songs c.args.uri.now c.args.name.now none) ∙ ap (λ all. value_at all c.args.uri.now c.args.name.now) c.self.view_is
