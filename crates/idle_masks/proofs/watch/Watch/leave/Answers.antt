use Rattle.std.proofs.Common.{sym}
use Rattle.idle_masks.proofs.Rising.{left_at, rising_left}
use Rattle.idle_masks.proofs.watch.Watch.leave.Goals as goal

-- the others stay, in their order
pub invariant_of-self : goal.invariant_of-self
invariant_of-self c =
    let found = rw c.deref.ensures.value at c.in-Ok.ensures.found in
    rw (c.remove.ensures.items, ← left_at _ c.self.invariant _ _ found) (rising_left _ _ c.self.invariant)

pub returns-in-Ok-clause-ok : goal.returns-in-Ok-clause-ok
returns-in-Ok-clause-ok c =
    let found = rw c.deref.ensures.value at c.in-Ok.ensures.found in
    rw (c.remove.ensures.items, ← c.self.view_is) (sym (left_at _ c.self.invariant _ _ found))
