use Rattle.std.proofs.Common.{◌∙◌, ap}
use Rattle.stickers.specs.Named.{under}
use Rattle.stickers.proofs.ByName.{lookup-by_name}
use Rattle.stickers.proofs.song.SongStickers.get.Goals as goal

pub returns-clause-value : goal.returns-clause-value
returns-clause-value c = c.get.ensures.value ∙ lookup-by_name c.args.name.now c.self.inside.values.entries
    ∙ ap (λ named. under named c.args.name.now) c.self.view_is
