use Rattle.std.proofs.Common.{refl}
use Rattle.idle_masks.proofs.Rising.{joined_at, joined_gap, rising_insert}
use Rattle.idle_masks.proofs.watch.Watch.join.Goals as goal

-- the client was there, and starts afresh in its place
pub returns-in-Ok-clause-ok : goal.returns-in-Ok-clause-ok
returns-in-Ok-clause-ok c =
    let found = rw c.deref.ensures.value at c.in-Ok.ensures.found in
    rw (← c.self.view_is, joined_at _ c.self.invariant _ _ found, c.none.ensures) refl

-- the client goes into the gap
pub invariant_of-self-in-Err : goal.invariant_of-self-in-Err
invariant_of-self-in-Err c =
    let gap = rw c.deref.ensures.value at c.in-Err.ensures.absent in
    rw (c.in_ok-insert-in-Err.ensures.items, c.none.ensures) (rising_insert _ _ _ gap c.self.invariant)

pub returns-in_ok-insert-in-Err-clause-ok : goal.returns-in_ok-insert-in-Err-clause-ok
returns-in_ok-insert-in-Err-clause-ok c =
    let gap = rw c.deref.ensures.value at c.in-Err.ensures.absent in
    rw (← c.self.view_is, c.in_ok-insert-in-Err.ensures.items, c.none.ensures, joined_gap _ _ _ gap) refl
