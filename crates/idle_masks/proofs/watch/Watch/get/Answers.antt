use Rattle.std.proofs.Common.{arith}
use Rattle.std.proofs.lemmas.Grind.{common_steps}
use Rattle.idle_masks.proofs.Rising.{watched_at}
use Rattle.idle_masks.proofs.watch.Watch.get.Goals as goal

-- the client is at its place, and what stands there was read
pub returns-in-Ok : goal.returns-in-Ok
returns-in-Ok c =
    let known = watched_at _ c.self.invariant _ _ (rw c.deref.ensures.value at c.in-Ok.ensures.found) c.index.result.now in
    rw (← c.self.view_is) (grind (arith, common_steps, known))
