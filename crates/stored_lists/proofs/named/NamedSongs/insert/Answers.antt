use Rattle.std.proofs.Common.{◌∙◌, ap, subst, string_bytes}
use Rattle.stored_lists.specs.Lists.{with_list, IsRising}
use Rattle.stored_lists.specs.ByName.{by_name}
use Rattle.stored_lists.proofs.ByName.{insert_entry-by_name, sorted-by_name}
use Rattle.stored_lists.proofs.named.NamedSongs.insert.Goals as goal

pub returns-clause-ok : goal.returns-clause-ok
returns-clause-ok c = ap by_name c.in_ok-insert.ensures.entries ∙ insert_entry-by_name c.self.inside.map.entries c.args.name c.args.songs
    ∙ ap (λ lists. with_list lists (string_bytes c.args.name) c.args.songs) c.self.view_is

pub returns-in_err-insert-clause-rising : goal.returns-in_err-insert-clause-rising
returns-in_err-insert-clause-rising c =
    subst IsRising c.self.view_is (sorted-by_name c.self.inside.map.entries c.in_err-insert.ensures.was_ordered)

pub returns-clause-rising : goal.returns-clause-rising
returns-clause-rising c = subst IsRising c.self.view_is (sorted-by_name c.self.inside.map.entries c.in_ok-insert.ensures.was_ordered)
