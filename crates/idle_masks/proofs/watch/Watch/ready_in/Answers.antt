use Rattle.idle_masks.proofs.watch.Watch.ready_in.Goals as goal

pub returns-clause-in_order : goal.returns-clause-in_order
returns-clause-in_order c = c.take_ready.ensures.in_order (rw c.deref_mut.ensures.value c.self.invariant)
