use Rattle.mio_clients.proofs.GroupLaws.{IsPuttingBack}
use Rattle.std.proofs.Common.{vec_len}
use Rattle.mio_clients.proofs.clients.Clients.put_back_all.Given as goal

-- those that are left are to be put before those that were put back
abbrev pub invariant-loop-event : goal.invariant-loop-event
invariant-loop-event g l = IsPuttingBack l.initial.self l.self l.fn.events.items l.rest.items

abbrev pub decreases-loop-event : goal.decreases-loop-event
decreases-loop-event g l = vec_len l.rest
