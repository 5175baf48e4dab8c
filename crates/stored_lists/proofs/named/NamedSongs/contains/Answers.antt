use Rattle.std.proofs.Common.{◌∙◌, ap, is_some}
use Rattle.stored_lists.specs.Lists.{songs_of}
use Rattle.stored_lists.proofs.ByName.{lookup-by_name}
use Rattle.stored_lists.proofs.named.NamedSongs.contains.Goals as goal

pub returns : goal.returns
returns c = c.contains_key.ensures ∙ ap is_some (lookup-by_name c.args.name.now c.self.inside.map.entries
    ∙ ap (λ lists. songs_of lists c.args.name.now) c.self.view_is)
