use Rattle.std.proofs.Common.{subst}
use Rattle.stored_lists.specs.Lists.{IsRising}
use Rattle.stored_lists.proofs.ByName.{sorted-by_name}
use Rattle.stored_lists.proofs.named.NamedSongs.len.Goals as goal

pub returns-clause-rising : goal.returns-clause-rising
returns-clause-rising c = subst IsRising c.self.view_is (sorted-by_name c.self.inside.map.entries c.len.ensures.ordered)
