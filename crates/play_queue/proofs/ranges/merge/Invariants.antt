use Rattle.std.proofs.Common.{◌≡◌, ℕ, ◌<◌, ◌≤◌, ◌||◌, length, get_or, take}
use Rattle.play_queue.specs.Entries.{is_in_some}
use Rattle.play_queue.specs.Ranges.{is_in_range, AreNotEmpty}
use Rattle.play_queue.proofs.ranges.merge.Given as goal

-- the merged ranges and the one that still grows have the positions so far; the ranges that come start no lower
abbrev pub invariant-loop-range : goal.invariant-loop-range
invariant-loop-range l = record {
  covers : (at : ℕ) → (is_in_some l.merged.items at || is_in_range (l.start, l.end) at) ≡ is_in_some (take l.range-index l.sorted) at;
  low : (k : ℕ) → l.range-index ≤ k → k < length l.sorted → l.start ≤ (get_or l.sorted k (0, 0)).0;
  some : AreNotEmpty l.merged.items;
}
