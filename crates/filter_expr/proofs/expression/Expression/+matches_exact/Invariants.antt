use Rattle.std.proofs.Common.{◌≡◌, ◌≤◌}
use Rattle.filter_expr.specs.Meaning.{is_match}
use Rattle.filter_expr.specs.Tree.{tree_of}
use Rattle.filter_expr.specs.declared.case.Case.TheVariants.{Exact}
use Rattle.filter_expr.specs.declared.expression.Expression.{size-Expression}
use Rattle.filter_expr.proofs.expression.Expression.+matches_exact.Given as goal

abbrev pub decreases-matches_exact : goal.decreases-matches_exact
decreases-matches_exact l = goal.size-matches_exact l

abbrev pub invariant-loop-left : goal.invariant-loop-left
invariant-loop-left l =
    (size-Expression l.left ≤ size-Expression l.self) × (is_match Exact (tree_of l.left) l.row ≡ is_match Exact (tree_of l.self) l.row)
