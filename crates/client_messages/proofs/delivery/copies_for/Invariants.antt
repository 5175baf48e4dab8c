use Rattle.std.proofs.Common.{◌≡◌, take, replicate}
use Rattle.std.specs.List.{count_by}
use Rattle.client_messages.specs.Listeners.{takes}
use Rattle.client_messages.proofs.delivery.copies_for.Given as goal

-- a copy for each so far
abbrev pub invariant-loop-listener : goal.invariant-loop-listener
invariant-loop-listener l = l.copies.items ≡ replicate (count_by (takes l.draft) (take l.listener-index l.listeners)) l.draft
