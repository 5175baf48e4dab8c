use Rattle.std.proofs.Common.{◌≡◌, drop}
use Rattle.play_queue.specs.Positions.{positions_of}
use Rattle.play_queue.proofs.Located.{found_then}
use Rattle.play_queue.proofs.queue.Queue.few_positions.Given as goal

-- what is found, and then what is to be found
abbrev pub invariant-loop-wanted : goal.invariant-loop-wanted
invariant-loop-wanted l = found_then l.positions.items (positions_of l.self.entries (drop l.wanted-index l.ids)) ≡ positions_of l.self.entries l.ids
