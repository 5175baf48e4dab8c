use Rattle.std.proofs.Common.{◌∙◌, ap}
use Rattle.stored_lists.specs.Lists.{songs_of, without_list}
use Rattle.stored_lists.specs.ByName.{by_name}
use Rattle.stored_lists.proofs.ByName.{lookup-by_name, remove_entry-by_name}
use Rattle.stored_lists.proofs.named.NamedSongs.remove.Goals as goal

pub returns-clause-value : goal.returns-clause-value
returns-clause-value c = c.remove.ensures.value ∙ lookup-by_name c.args.name.now c.self.inside.map.entries
    ∙ ap (λ lists. songs_of lists c.args.name.now) c.self.view_is

pub returns-clause-removed : goal.returns-clause-removed
returns-clause-removed c = ap by_name c.remove.ensures.entries ∙ remove_entry-by_name c.args.name.now c.self.inside.map.entries
    ∙ ap (λ lists. without_list lists c.args.name.now) c.self.view_is
