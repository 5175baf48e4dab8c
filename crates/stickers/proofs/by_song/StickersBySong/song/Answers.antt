use Rattle.std.proofs.Common.{◌∙◌}
use Rattle.stickers.specs.ByName.{by_name}
use Rattle.stickers.proofs.ByName.{lookup-by_name}
use Rattle.stickers.proofs.Flat.{song_found}
use Rattle.stickers.proofs.by_song.StickersBySong.song.Goals as goal

pub returns : goal.returns
returns c = rw (← c.self.view_is) (song_found (by_name c.self.inside.songs.entries) c.args.uri.now c.get.result c.self.invariant
    (c.get.ensures.value ∙ lookup-by_name c.args.uri.now c.self.inside.songs.entries))
