use Rattle.std.proofs.Common.{◌≡◌, ◌≤◌, ◌++◌, length, take, drop, vec_capacity, replicate}
use Rattle.std.specs.List.{count_by}
use Rattle.client_messages.specs.Listeners.{takes, sent, notified}
use Rattle.client_messages.proofs.delivery.deliver_each.Given as goal

-- the copies that are left are for the clients that are left
abbrev pub invariant-loop-listener : goal.invariant-loop-listener
invariant-loop-listener l = record {
  same : l.copies.items ≡ replicate (length l.copies.items) l.draft;
  count : length l.copies.items ≡ count_by (takes l.draft) (drop l.listener-index l.fn.listeners);
  delivered : l.listeners ≡ sent (take l.listener-index l.fn.listeners) l.draft ++ drop l.listener-index l.fn.listeners;
  told : l.clients.items ++ notified (drop l.listener-index l.fn.listeners) l.draft ≡ notified l.fn.listeners l.draft;
  few : length l.clients.items ≤ l.listener-index;
  room : length l.fn.listeners ≤ vec_capacity l.clients;
}
