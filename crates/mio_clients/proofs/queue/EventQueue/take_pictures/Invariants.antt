use Rattle.std.proofs.Common.{◌≡◌, ◌+◌, ◌≤◌, ℕ, [], length}
use Rattle.std.specs.VecDeque.{deque_len, deque_capacity}
use Rattle.mio_clients.specs.Events.{asked_in}
use Rattle.mio_clients.proofs.SeekLaws.{IsWhole}
use Rattle.mio_clients.proofs.queue.EventQueue.take_pictures.Given as goal

-- what is left to be looked at stands at the front, and what stays behind it
abbrev pub invariant-loop-left : goal.invariant-loop-left
invariant-loop-left l = record {
  whole : (c : ℕ) → IsWhole c (asked_in c l.initial.self-inside.events.items) l.left l.self-inside.events.items [];
  within : l.left ≤ length l.self-inside.events.items;
  same : l.self-inside.spare ≡ l.initial.self-inside.spare;
  few : deque_len l.self-inside.events ≤ deque_len l.initial.self-inside.events;
  room : deque_len l.self-inside.events + l.self-inside.spare ≤ deque_capacity l.self-inside.events;
}

abbrev pub decreases-loop-left : goal.decreases-loop-left
decreases-loop-left l = l.left
