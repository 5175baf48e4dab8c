use Rattle.stored_lists.proofs.Counted.{counted_renamed}
use Rattle.stored_lists.proofs.lists.Lists.rename.Goals as goal

pub invariant_of-self-2 : goal.invariant_of-self-2
invariant_of-self-2 c =
    let fits = rw (← c.self.view_is) at c.in_ok-check_rename.ensures.fits in
    rw c.in_ok-rename.ensures.ok (counted_renamed _ _ _ _ c.self.invariant fits.found fits.free fits.good)
