use Rattle.std.proofs.Common.{◌≡◌, ◌≤◌}
use Rattle.filter_expr.specs.Meaning.{denotes}
use Rattle.filter_expr.specs.Tree.{tree_of}
use Rattle.filter_expr.specs.declared.case.Case.TheVariants.{Folded}
use Rattle.filter_expr.specs.declared.expression.Expression.{size-Expression}
use Rattle.filter_expr.proofs.expression.Expression.+matches_folded.Given as goal

abbrev pub decreases-matches_folded : goal.decreases-matches_folded
decreases-matches_folded l = goal.size-matches_folded l

abbrev pub invariant-loop-left : goal.invariant-loop-left
invariant-loop-left l =
    (size-Expression l.left ≤ size-Expression l.self) × (l.row ≡ l.fn.row)
    × (denotes Folded (tree_of l.left) l.row ≡ denotes Folded (tree_of l.self) l.row)
