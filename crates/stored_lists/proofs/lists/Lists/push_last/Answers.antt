use Rattle.std.proofs.Common.{◌∙◌}
use Rattle.stored_lists.proofs.Last.{last_added, last_free}
use Rattle.stored_lists.proofs.lists.Lists.push_last.Goals as goal

pub insert_new-requires-clause-free : goal.insert_new-requires-clause-free
insert_new-requires-clause-free c = last_free c.args.self.now c.args.name.now c.in_ok-check_last.ensures.last

pub returns-clause-ok : goal.returns-clause-ok
returns-clause-ok c = c.in_ok-insert_new.ensures.ok
    ∙ last_added c.args.self.now c.args.name.now c.args.songs c.in_ok-check_last.ensures.last
