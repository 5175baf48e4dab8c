use Rattle.std.proofs.Common.{◌≡◌, ◌+◌, ◌-◌, ◌≤◌, drop}
use Rattle.mio_clients.specs.Grouping.{group_len}
use Rattle.mio_clients.proofs.queue.EventQueue.group_len.Given as goal

-- so many are in the group, and those behind them that are
abbrev pub invariant-loop-count : goal.invariant-loop-count
invariant-loop-count l = record {
  few : l.count ≤ l.most;
  len : group_len l.most l.self.events ≡ l.count + group_len (l.most - l.count) (drop l.count l.self.events);
}

abbrev pub decreases-loop-count : goal.decreases-loop-count
decreases-loop-count l = l.most - l.count
