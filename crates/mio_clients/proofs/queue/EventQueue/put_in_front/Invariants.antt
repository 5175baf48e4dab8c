use Rattle.std.proofs.Common.{◌≡◌, ◌+◌, ◌≤◌, ◌++◌}
use Rattle.std.specs.VecDeque.{deque_len, deque_capacity}
use Rattle.mio_clients.proofs.queue.EventQueue.put_in_front.Given as goal

-- what was put in front, and what is left to be, make the whole
abbrev pub invariant-loop-last : goal.invariant-loop-last
invariant-loop-last l = record {
  whole : l.round.items ++ l.self-inside.events.items ≡ l.initial.round.items ++ l.initial.self-inside.events.items;
  same : l.self-inside.spare ≡ l.initial.self-inside.spare;
  all : deque_len l.round + deque_len l.self-inside.events ≡ deque_len l.initial.round + deque_len l.initial.self-inside.events;
  capacity : deque_capacity l.self-inside.events ≡ deque_capacity l.initial.self-inside.events;
  room : deque_len l.round + (deque_len l.self-inside.events + l.self-inside.spare) ≤ deque_capacity l.self-inside.events;
}

abbrev pub decreases-loop-last : goal.decreases-loop-last
decreases-loop-last l = deque_len l.round
