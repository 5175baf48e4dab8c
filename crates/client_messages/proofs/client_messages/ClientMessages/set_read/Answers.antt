use Rattle.client_messages.proofs.Calls.{read_from, read_gap}
use Rattle.client_messages.proofs.client_messages.ClientMessages.set_read.Goals as goal

pub returns-in-Ok : goal.returns-in-Ok
returns-in-Ok c =
    let found = rw c.deref.ensures.value at c.in-Ok.ensures.found in
    rw (← c.self.view_is) (read_from c.self.inside.listeners.items c.self.invariant c.args.client c.in-Ok.at found c.index_mut.result.now
    c.index_mut.ensures.value c.clear.new.self c.clear.ensures)

pub returns-in-Err : goal.returns-in-Err
returns-in-Err c =
    let gap = rw c.deref.ensures.value at c.in-Err.ensures.absent in
    rw (← c.self.view_is) (read_gap c.self.inside.listeners.items c.args.client _ gap)
