use Rattle.std.proofs.Common.{◌≡◌, ◌+◌, ◌≤◌, ℕ, length, drop}
use Rattle.std.specs.List.{AllByRecursion}
use Rattle.std.specs.VecDeque.{deque_len, deque_capacity}
use Rattle.mio_clients.specs.Events.{asked_in, has_request_of}
use Rattle.mio_clients.specs.Seeking.{is_held, IsLed, IsSeeking, IsUnsought}
use Rattle.mio_clients.proofs.SeekLaws.{IsWhole}
use Rattle.mio_clients.proofs.queue.EventQueue.take_seeking.Given as goal

-- what is left to be looked at stands at the front, and what is served behind it; those wait of which a request does
abbrev pub invariant-loop-left : goal.invariant-loop-left
invariant-loop-left l = record {
  whole : (c : ℕ) → IsWhole c (asked_in c l.initial.self.events) l.left l.self.events l.behind.items;
  held : (c : ℕ) → is_held c l.held.items ≡ has_request_of c l.behind.items;
  served : AllByRecursion IsUnsought (drop l.left l.self.events);
  seeking : AllByRecursion IsSeeking l.behind.items;
  led : (c : ℕ) → IsLed (asked_in c l.behind.items);
  within : l.left ≤ length l.self.events;
  same : l.self.spare ≡ l.initial.self.spare;
  few : deque_len l.behind + l.left ≤ length l.initial.self.events;
  room : length l.initial.self.events ≤ deque_capacity l.behind;
  places : l.self.spare + deque_len l.behind ≤ l.self.room;
}

abbrev pub decreases-loop-left : goal.decreases-loop-left
decreases-loop-left l = l.left
