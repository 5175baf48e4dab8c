use Rattle.std.proofs.Common.{◌∙◌, ap}
use Rattle.stickers.specs.Named.{without_name}
use Rattle.stickers.specs.ByName.{by_name}
use Rattle.stickers.proofs.ByName.{remove_entry-by_name, sorted-by_name}
use Rattle.stickers.proofs.Named.{remove_entry-without}
use Rattle.stickers.proofs.song.SongStickers.remove.Goals as goal

pub returns : goal.returns
returns c = ap by_name c.remove.ensures.entries ∙ remove_entry-by_name c.args.name.now c.self.inside.values.entries
    ∙ remove_entry-without _ c.args.name.now c.self.invariant ∙ ap (λ named. without_name named c.args.name.now) c.self.view_is

pub invariant_of-self : goal.invariant_of-self
invariant_of-self c = sorted-by_name _ c.remove.ensures.ordered
