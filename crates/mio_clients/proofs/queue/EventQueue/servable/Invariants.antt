use Rattle.std.proofs.Common.{◌-◌, ◌≤◌, length, take, true}
use Rattle.mio_clients.specs.Waiting.{QuietBehind}
use Rattle.mio_clients.proofs.queue.EventQueue.servable.Given as goal

-- of the events up to a place those behind so many aren't to be served
abbrev pub invariant-loop-event : goal.invariant-loop-event
invariant-loop-event l = record {
  quiet : QuietBehind true l.count (take l.place l.self.events);
  within : l.count ≤ l.place;
}

abbrev pub decreases-loop-event : goal.decreases-loop-event
decreases-loop-event l = length l.self.events - l.place
