use Rattle.std.proofs.Common.{◌≡◌, refl}
use Rattle.song_db.specs.declared.place.Place.TheVariants.{Root}
use Rattle.stickers.specs.ByName.{by_name}
use Rattle.stickers.specs.Find.{found_in}
use Rattle.stickers.specs.Sticker.{flat}
use Rattle.stickers.proofs.Below.{found_below, ends_forward, between_all}
use Rattle.stickers.proofs.by_song.StickersBySong.find.Goals as goal

pub range-requires-in-At : goal.range-requires-in-At
range-requires-in-At c = ends_forward c.in_ok-first-in-At.first c.in_ok-end-in-At.end c.in-At.folder.now c.in_ok-first-in-At.ensures
    c.in_ok-end-in-At.ensures

pub returns-in-Root : goal.returns-in-Root
returns-in-Root c =
    let all : found_in (flat (by_name c.range.result)) Root c.args.name.now c.args.test.now
    ≡ found_in c.args.self.now c.args.place c.args.name.now c.args.test.now
    = rw (c.range.ensures.between tt, between_all c.self.inside.songs.entries, c.self.view_is, c.in-Root.is) refl in
    rw (← all) c.find_in.ensures

pub returns-in_ok-end-in-At : goal.returns-in_ok-end-in-At
returns-in_ok-end-in-At c =
    let below : found_in (flat (by_name c.range-in-At.result)) Root c.args.name.now c.args.test.now
    ≡ found_in c.args.self.now c.args.place c.args.name.now c.args.test.now
    = rw (c.range-in-At.ensures.between tt, c.in-At.is, ← c.self.view_is)
    (found_below c.self.inside.songs.entries c.in_ok-first-in-At.first c.in_ok-end-in-At.end c.in-At.folder c.args.name.now
    c.args.test.now c.in_ok-first-in-At.ensures c.in_ok-end-in-At.ensures) in
    rw (← below) c.find_in-in-At.ensures
