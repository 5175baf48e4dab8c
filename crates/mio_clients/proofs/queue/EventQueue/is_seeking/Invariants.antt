use Rattle.std.proofs.Common.{◌-◌, length}
use Rattle.mio_clients.proofs.queue.EventQueue.is_seeking.Given as goal

abbrev pub decreases-loop-event : goal.decreases-loop-event
decreases-loop-event l = length l.self.events - l.place
