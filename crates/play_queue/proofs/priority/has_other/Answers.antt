use Rattle.std.proofs.Common.{◌≡◌, ℕ, ◌<◌, ◌≤◌, true, get_or, take, length, ◌⊎◌, inl, inr, List, arith}
use Rattle.play_queue.specs.declared.entry.Entry.{Entry}
use Rattle.play_queue.specs.Entries.{is_in_some}
use Rattle.play_queue.proofs.Prioritized.{in_range, is_in_some-more, is_in_some-at, in_range-from, range_parts, or_cases}
use Rattle.play_queue.proofs.priority.has_other.Goals as goal

pub returns-then-has_other_in-clause-yes : goal.returns-then-has_other_in-clause-yes
returns-then-has_other_in-clause-yes c =
    let found = c.if-has_other_in.ensures.yes in
    let fits = c.requires c.loop-range.range-index (0, 0) c.loop-range-test.true in (
      found.0,
      omega (arith, found.2, fits.1),
      is_in_some-at c.args.ranges.now c.loop-range.range-index (0, 0) found.0 c.loop-range-test.true
          (in_range-from (get_or c.args.ranges.now c.loop-range.range-index (0, 0)) found.0 found.1 found.2),
      found.3,
    )

pub loop-range-preserved : goal.loop-range-preserved
loop-range-preserved c = λ k d within is. step c.args.entries.now c.args.ranges.now c.loop-range.range-index c.args.priority
    c.loop-range.invariant c.if-has_other_in.ensures.no k d within
    (or_cases (is_in_some (take c.loop-range.range-index c.args.ranges.now) k) _
    (rw (is_in_some-more c.args.ranges.now c.loop-range.range-index (0, 0) k c.loop-range-test.true) at is))
  where
    step : (entries : List Entry) (ranges : List (ℕ × ℕ)) (i priority : ℕ)
        → ((k : ℕ) (d : Entry) → k < length entries → is_in_some (take i ranges) k ≡ true → (get_or entries k d).priority ≡ priority)
        → ((k : ℕ) (d : Entry) → (get_or ranges i (0, 0)).0 ≤ k → k < (get_or ranges i (0, 0)).1 → (get_or entries k d).priority ≡ priority)
        → (k : ℕ) (d : Entry) → k < length entries → (is_in_some (take i ranges) k ≡ true) ⊎ (in_range (get_or ranges i (0, 0)) k ≡ true)
        → (get_or entries k d).priority ≡ priority
    step entries ranges i priority before none k d within (inl earlier) = before k d within earlier
    step entries ranges i priority before none k d within (inr here) =
        let parts = range_parts (get_or ranges i (0, 0)) k here in none k d parts.0 parts.1
