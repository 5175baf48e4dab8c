use Rattle.std.proofs.Common.{◌≡◌, ℕ, ◌<◌, true, get_or, take, length}
use Rattle.play_queue.specs.declared.entry.Entry.{Entry}
use Rattle.play_queue.specs.Entries.{is_in_some}
use Rattle.play_queue.proofs.priority.has_other.Given as goal

abbrev pub invariant-loop-range : goal.invariant-loop-range
invariant-loop-range l = (k : ℕ) (d : Entry) → k < length l.entries → is_in_some (take l.range-index l.ranges) k ≡ true
    → (get_or l.entries k d).priority ≡ l.priority
