use Rattle.std.proofs.Common.{◌≡◌, ◌+◌, ◌≤◌, ◌++◌, length, take, drop}
use Rattle.std.specs.VecDeque.{deque_len, deque_capacity}
use Rattle.mio_clients.specs.Events.{without}
use Rattle.mio_clients.proofs.queue.EventQueue.forget.Given as goal

-- what is left to be looked at stands at the front, and what stays behind it
abbrev pub invariant-loop-left : goal.invariant-loop-left
invariant-loop-left l = record {
  whole : drop l.left l.self-inside.events.items ++ without l.client (take l.left l.self-inside.events.items)
      ≡ without l.client l.initial.self-inside.events.items;
  within : l.left ≤ length l.self-inside.events.items;
  same : l.self-inside.spare ≡ l.initial.self-inside.spare;
  room : deque_len l.self-inside.events + l.self-inside.spare ≤ deque_capacity l.self-inside.events;
}

abbrev pub decreases-loop-left : goal.decreases-loop-left
decreases-loop-left l = l.left
