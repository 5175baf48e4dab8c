use Rattle.std.proofs.Common.{arith}
use Rattle.stored_lists.proofs.Counted.{counted_fits, counted_with_songs, uris-none}
use Rattle.stored_lists.proofs.lists.Lists.clear.Goals as goal

pub overflow_sub-self : goal.overflow_sub-self
overflow_sub-self c =
    omega (arith, c.len-count.ensures.count, counted_fits _ _ _ _ c.self.invariant (rw (← c.self.view_is) at c.in_ok-get.ensures.songs))

pub invariant_of-self : goal.invariant_of-self
invariant_of-self c =
    let found = rw (← c.self.view_is) at c.in_ok-get.ensures.songs in
    let fits = counted_fits _ _ _ _ c.self.invariant found in
    rw c.clear_songs.ensures (counted_with_songs _ _ _ _ _ _ c.self.invariant uris-none found
    (omega (arith, c.len-count.ensures.count, fits)) (omega (arith, c.self.invariant.within.few_entries, c.self.invariant.counted)))
