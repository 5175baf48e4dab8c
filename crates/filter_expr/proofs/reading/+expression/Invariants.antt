use Rattle.std.proofs.Common.{◌≡◌, ◌<◌, ◌≤◌, ℕ, length, ◌+◌, ◌*◌}
use Rattle.filter_expr.specs.Reading.{others_at, group_at, expression_at}
use Rattle.filter_expr.specs.Tree.{tree_of}
use Rattle.filter_expr.proofs.reading.+expression.Given as goal

abbrev pub decreases-expression_at : goal.decreases-expression_at
decreases-expression_at l = 2 * l.room

abbrev pub decreases-group_at : goal.decreases-group_at
decreases-group_at l = 2 * l.room + 1

abbrev pub decreases-negation_at : goal.decreases-negation_at
decreases-negation_at l = 2 * l.room + 1

-- with as many more expressions as bytes are left, what is left leads to the same group
abbrev pub invariant-group_at-others : goal.invariant-group_at-others
invariant-group_at-others l =
    (length l.rest < length l.text) × ((most : ℕ) × (length l.rest ≤ most)
    × (others_at (expression_at l.profile l.room) most (tree_of l.tree, l.rest) ≡ group_at (expression_at l.profile l.room) l.text))

abbrev pub decreases-group_at-others : goal.decreases-group_at-others
decreases-group_at-others l = length l.rest
