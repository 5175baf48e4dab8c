use Rattle.std.proofs.Common.{◌∙◌}
use Rattle.client_messages.proofs.Calls.{unread_from, unread_gap}
use Rattle.client_messages.proofs.client_messages.ClientMessages.unread.Goals as goal

pub returns-in-Ok-clause-messages : goal.returns-in-Ok-clause-messages
returns-in-Ok-clause-messages c =
    let found = rw c.deref.ensures.value at c.in-Ok.ensures.found in
    rw (← c.self.view_is) (c.as_slice.ensures.messages
    ∙ unread_from c.self.inside.listeners.items c.self.invariant c.args.client c.in-Ok.at found c.index.result.now c.index.ensures)

pub returns-in-Err-clause-messages : goal.returns-in-Err-clause-messages
returns-in-Err-clause-messages c =
    let gap = rw c.deref.ensures.value at c.in-Err.ensures.absent in
    rw (← c.self.view_is) (unread_gap c.self.inside.listeners.items c.args.client _ gap)
