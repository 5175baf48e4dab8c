use Rattle.std.proofs.Common.{◌≡◌, ◌-◌, drop, length}
use Rattle.mio_clients.specs.Events.{has_request_of}
use Rattle.mio_clients.proofs.queue.has_request.Given as goal

-- none is among those that were looked at
abbrev pub invariant-loop-event : goal.invariant-loop-event
invariant-loop-event l = has_request_of l.client l.events.items ≡ has_request_of l.client (drop l.place l.events.items)

abbrev pub decreases-loop-event : goal.decreases-loop-event
decreases-loop-event l = length l.events.items - l.place
