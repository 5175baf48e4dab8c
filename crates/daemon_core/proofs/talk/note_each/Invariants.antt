use Rattle.std.proofs.Common.{◌≡◌, ◌+◌, ◌≤◌, ◌++◌, length, vec_len, vec_capacity}
use Rattle.daemon_core.proofs.talk.note_each.Given as goal

abbrev pub invariant-loop-client : goal.invariant-loop-client
invariant-loop-client l = record {
  noted : l.notified.items ++ l.rest ≡ l.fn.notified.items ++ l.clients;
  room : vec_len l.notified + length l.rest ≤ vec_capacity l.notified;
}

abbrev pub decreases-loop-client : goal.decreases-loop-client
decreases-loop-client l = length l.rest
