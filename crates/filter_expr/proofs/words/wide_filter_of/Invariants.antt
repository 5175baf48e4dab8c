use Rattle.std.proofs.Common.{◌≡◌, ◌-◌, ◌≤◌, ℕ, length, drop}
use Rattle.filter_expr.specs.Tree.{tree_of}
use Rattle.filter_expr.specs.Words.{more_parts, wide_filter_of}
use Rattle.filter_expr.proofs.words.wide_filter_of.Given as goal

-- with as many more parts as words are left, what is left leads to the same filter
abbrev pub invariant-parts : goal.invariant-parts
invariant-parts l =
    (most : ℕ) × (length l.words - l.number ≤ most)
    × (more_parts most l.number (tree_of l.tree) (drop l.number l.words) ≡ wide_filter_of l.words)

abbrev pub decreases-parts : goal.decreases-parts
decreases-parts l = length l.words - l.number
