use Rattle.std.proofs.Common.{[]}
use Rattle.song_db.proofs.Indexed.{none_replaced_at, set_replaced_at}
use Rattle.song_db.proofs.value_index.ValueIndex.take.Goals as goal

pub returns-in-Some : goal.returns-in-Some
returns-in-Some c = rw (← c.self.view_is) (set_replaced_at c.args.tag c.args.value.now c.args.uri.now [] c.self.inside.tags.items
    c.in-Some.at c.index_mut.result.now c.take.new.self (rw c.deref.ensures.value at c.in-Some.ensures) c.index_mut.ensures.value c.take.ensures)

pub returns-in_default : goal.returns-in_default
returns-in_default c = rw (← c.self.view_is) (none_replaced_at c.args.tag c.args.value.now c.args.uri.now c.self.inside.tags.items
    (rw c.deref.ensures.value at c.in_default.ensures))
