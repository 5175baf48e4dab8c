use Rattle.std.proofs.Common.{◌≡◌, ◌+◌, ◌≤◌, ◌++◌, length}
use Rattle.std.specs.VecDeque.{deque_len, deque_capacity}
use Rattle.mio_clients.specs.Events.{asked_by}
use Rattle.mio_clients.proofs.queue.EventQueue.ask.Given as goal

-- what was added, and what is left to be added, make the whole
abbrev pub invariant-loop-request : goal.invariant-loop-request
invariant-loop-request l = record {
  whole : l.self-inside.events.items ++ asked_by l.client l.request-iterator ≡ l.initial.self-inside.events.items ++ asked_by l.client l.fn.requests;
  same : l.self-inside.spare ≡ l.initial.self-inside.spare;
  room : deque_len l.self-inside.events + (l.self-inside.spare + length l.request-iterator) ≤ deque_capacity l.self-inside.events;
}
