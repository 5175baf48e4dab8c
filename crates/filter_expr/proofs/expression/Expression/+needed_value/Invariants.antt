use Rattle.std.proofs.Common.{◌≡◌, ◌≤◌, true}
use Rattle.song_db.specs.Row.{Row}
use Rattle.filter_expr.specs.Looks.{needed_value}
use Rattle.filter_expr.specs.Meaning.{is_match}
use Rattle.filter_expr.specs.Tree.{tree_of}
use Rattle.filter_expr.specs.declared.case.Case.TheVariants.{Exact}
use Rattle.filter_expr.specs.declared.expression.Expression.{size-Expression}
use Rattle.filter_expr.proofs.expression.Expression.+needed_value.Given as goal

abbrev pub decreases-needed_value : goal.decreases-needed_value
decreases-needed_value l = goal.size-needed_value l

-- what is denoted is denoted by the part that is left, and what it needs is needed
abbrev pub invariant-loop-left : goal.invariant-loop-left
invariant-loop-left l =
    (size-Expression l.left ≤ size-Expression l.self) × (needed_value (tree_of l.left) ≡ needed_value (tree_of l.self))
    × ((row : Row) → is_match Exact (tree_of l.self) row ≡ true → is_match Exact (tree_of l.left) row ≡ true)
