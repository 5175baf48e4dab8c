use Rattle.std.proofs.Common.{sym}
use Rattle.client_messages.proofs.Rising.{left_at, left_gap}
use Rattle.client_messages.proofs.client_messages.ClientMessages.leave.Goals as goal

-- the others stay, in their order
pub returns-in-Ok : goal.returns-in-Ok
returns-in-Ok c =
    let found = rw c.deref.ensures.value at c.in-Ok.ensures.found in
    rw (c.remove.ensures.items, ← c.self.view_is) (sym (left_at _ c.self.invariant _ _ found))

pub returns-in-Err : goal.returns-in-Err
returns-in-Err c =
    let gap = rw c.deref.ensures.value at c.in-Err.ensures.absent in
    rw (← c.self.view_is) (sym (left_gap _ _ _ gap))
