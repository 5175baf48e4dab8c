use Rattle.std.proofs.Common.{◌≡◌, ◌<◌, ◌≤◌, ℕ, length}
use Rattle.regular_expr.specs.Classes.{all_ranges, more_ranges}
use Rattle.regular_expr.proofs.classes.all_ranges.Given as goal

-- with as many more steps as bytes are left, what is left leads to the same ranges
abbrev pub invariant-more : goal.invariant-more
invariant-more l =
    (length l.rest < length l.text)
    × ((most : ℕ) × (length l.rest ≤ most) × (more_ranges most l.ranges.items l.rest ≡ all_ranges l.text))

abbrev pub decreases-more : goal.decreases-more
decreases-more l = length l.rest
