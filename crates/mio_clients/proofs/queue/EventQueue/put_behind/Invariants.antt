use Rattle.std.proofs.Common.{◌≡◌, ◌+◌, ◌≤◌, ◌++◌}
use Rattle.std.specs.VecDeque.{deque_len, deque_capacity}
use Rattle.mio_clients.proofs.queue.EventQueue.put_behind.Given as goal

-- what was put behind, and what is left to be, make the whole
abbrev pub invariant-loop-first : goal.invariant-loop-first
invariant-loop-first l = record {
  whole : l.self-inside.events.items ++ l.behind.items ≡ l.initial.self-inside.events.items ++ l.initial.behind.items;
  same : l.self-inside.spare ≡ l.initial.self-inside.spare;
  room : deque_len l.behind + (deque_len l.self-inside.events + l.self-inside.spare) ≤ deque_capacity l.self-inside.events;
}

abbrev pub decreases-loop-first : goal.decreases-loop-first
decreases-loop-first l = deque_len l.behind
