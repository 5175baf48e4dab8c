use Rattle.std.proofs.Common.{◌≡◌, ◌+◌, ◌≤◌, ℕ, length, take, drop}
use Rattle.std.specs.VecDeque.{deque_len, deque_capacity}
use Rattle.mio_clients.specs.Events.{asked_in}
use Rattle.mio_clients.proofs.RoundLaws.{IsTaken}
use Rattle.mio_clients.proofs.queue.EventQueue.take_round.Given as goal

-- what is left to be looked at stands at the front, and what stays behind it
abbrev pub invariant-loop-left : goal.invariant-loop-left
invariant-loop-left l = record {
  taken : (c : ℕ) → IsTaken c (asked_in c l.initial.self-inside.events.items) l.round.items (drop l.left l.self-inside.events.items)
      (take l.left l.self-inside.events.items);
  within : l.left ≤ length l.self-inside.events.items;
  same : l.self-inside.spare ≡ l.initial.self-inside.spare;
  whole : deque_len l.round + deque_len l.self-inside.events ≡ deque_len l.initial.self-inside.events;
  capacity : deque_capacity l.self-inside.events ≡ deque_capacity l.initial.self-inside.events;
  room : deque_len l.initial.self-inside.events ≤ deque_capacity l.round;
  places : deque_len l.self-inside.events + l.self-inside.spare ≤ deque_capacity l.self-inside.events;
}

abbrev pub decreases-loop-left : goal.decreases-loop-left
decreases-loop-left l = l.left
