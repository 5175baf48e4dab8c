use Rattle.std.proofs.Common.{arith}
use Rattle.stored_lists.proofs.Counted.{counted_fits, counted_without}
use Rattle.stored_lists.proofs.lists.Lists.remove.Goals as goal

pub overflow_sub-self : goal.overflow_sub-self
overflow_sub-self c =
    omega (arith, c.len-count.ensures.count, counted_fits _ _ _ _ c.self.invariant (rw (← c.self.view_is) at c.in_ok-get.ensures.songs))

pub invariant_of-self : goal.invariant_of-self
invariant_of-self c = rw (c.remove.ensures.removed, c.len-count.ensures.count)
    (counted_without _ _ _ _ c.self.invariant (rw (← c.self.view_is) at c.in_ok-get.ensures.songs)).counted
