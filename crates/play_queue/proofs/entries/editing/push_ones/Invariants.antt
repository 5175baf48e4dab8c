use Rattle.std.proofs.Common.{◌≡◌, ◌≤◌, ◌+◌, ◌-◌, ◌++◌, replicate, vec_len, vec_capacity}
use Rattle.play_queue.proofs.entries.editing.push_ones.Given as goal

abbrev pub invariant-loop : goal.invariant-loop
invariant-loop l = (l.stamps.items ≡ l.initial.stamps.items ++ replicate l.counter 1)
    × (vec_len l.stamps + (l.count - l.counter) ≤ vec_capacity l.stamps)
