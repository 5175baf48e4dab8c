use Rattle.std.proofs.Common.{arith}
use Rattle.stored_lists.proofs.Counted.{counted_with_list}
use Rattle.stored_lists.proofs.lists.Lists.insert_new.Goals as goal

pub invariant_of-self-2 : goal.invariant_of-self-2
invariant_of-self-2 c =
    let free = rw (← c.self.view_is) at c.requires.free in
    let room = rw (← c.self.view_is) at c.requires.room in
    rw (c.in_ok-insert.ensures.ok, c.in_ok-name.ensures.ok)
    (counted_with_list _ _ _ _ _ c.self.invariant room.good c.len-count.ensures.form free (room.few_lists free)
    (omega (arith, c.len-count.ensures.count)) (omega (arith, room.few_entries, c.len-count.ensures.count, c.self.invariant.counted)))
