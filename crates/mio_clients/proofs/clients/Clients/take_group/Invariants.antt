use Rattle.std.proofs.Common.{◌≡◌, ◌+◌, ◌-◌, ◌<◌, ◌≤◌, ℕ, [], length, vec_len, vec_capacity}
use Rattle.slab.specs.Slab.{slab_len}
use Rattle.mio_clients.specs.Grouping.{TakesGroup, asked_of_all}
use Rattle.mio_clients.proofs.clients.Clients.take_group.Given as goal

abbrev pub invariant-loop-self : goal.invariant-loop-self
invariant-loop-self g l = record {
  takes : TakesGroup l.initial.self l.self l.events.items l.clients.items;
  few : vec_len l.events ≤ l.count;
  same : vec_len l.clients ≡ vec_len l.events;
  more : l.count ≤ vec_len l.events + length l.self.events;
  known : (c : ℕ) → l.self.last_id < c → asked_of_all c l.events.items ≡ [];
  room : 0 < vec_len l.events → slab_len l.self.clients + vec_len l.events ≤ l.self.room;
  places : (l.count ≤ vec_capacity l.events) × (l.count ≤ vec_capacity l.clients);
  askers : (vec_len l.askers ≡ vec_len l.events) × (l.count ≤ vec_capacity l.askers);
}

abbrev pub decreases-loop-self : goal.decreases-loop-self
decreases-loop-self g l = l.count - vec_len l.events
