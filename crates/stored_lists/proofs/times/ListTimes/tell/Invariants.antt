use Rattle.std.proofs.Common.{◌≡◌, ◌++◌, drop, take, vec_capacity}
use Rattle.stored_lists.specs.Times.{timed}
use Rattle.stored_lists.proofs.times.ListTimes.tell.Given as goal

-- so far the times are told, and the others stand as they were
abbrev pub invariant-loop-at : goal.invariant-loop-at
invariant-loop-at l = record {
  told : l.self-inside.times.items
      ≡ timed l.seconds (take l.at l.initial.self-inside.times.items) ++ drop l.at l.initial.self-inside.times.items;
  room : vec_capacity l.self-inside.times ≡ vec_capacity l.initial.self-inside.times;
}
