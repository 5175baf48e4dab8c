use Rattle.std.proofs.Common.{◌≡◌, drop}
use Rattle.play_queue.specs.Positions.{positions_of}
use Rattle.play_queue.proofs.Located.{found_then}
use Rattle.play_queue.proofs.queue.Queue.many_positions.Given as goal

-- what is found, and then what is to be found
abbrev pub invariant-loop-id : goal.invariant-loop-id
invariant-loop-id l = found_then l.positions.items (positions_of l.self.entries (drop l.id-index l.ids)) ≡ positions_of l.self.entries l.ids
