use Rattle.std.proofs.Common.{◌≡◌, ℕ, ◌<◌, ◌≤◌, get_or}
use Rattle.play_queue.specs.declared.entry.Entry.{Entry}
use Rattle.play_queue.proofs.priority.has_other_in.Given as goal

abbrev pub invariant-loop-at : goal.invariant-loop-at
invariant-loop-at l = (k : ℕ) (d : Entry) → l.start ≤ k → k < l.at → (get_or l.entries k d).priority ≡ l.priority
