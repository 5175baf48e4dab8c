use Rattle.std.proofs.Common.{◌∙◌, ap}
use Rattle.stored_lists.specs.Lists.{songs_of}
use Rattle.stored_lists.proofs.ByName.{lookup-by_name}
use Rattle.stored_lists.proofs.named.NamedSongs.get.Goals as goal

pub returns : goal.returns
returns c = c.get.ensures.value ∙ lookup-by_name c.args.name.now c.self.inside.map.entries
    ∙ ap (λ lists. songs_of lists c.args.name.now) c.self.view_is
