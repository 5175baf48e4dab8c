use Rattle.std.proofs.Common.{◌≡◌, ◌+◌, ◌≤◌, ◌++◌, length, map, vec_len, vec_capacity}
use Rattle.daemon_core.proofs.clients.close_each.Given as goal

abbrev pub invariant-loop-watched : goal.invariant-loop-watched
invariant-loop-watched l = record {
  closed : l.closes.items ++ map (λ w. w.client) l.rest ≡ map (λ w. w.client) l.clients;
  room : vec_len l.closes + length l.rest ≤ vec_capacity l.closes;
}

abbrev pub decreases-loop-watched : goal.decreases-loop-watched
decreases-loop-watched l = length l.rest
