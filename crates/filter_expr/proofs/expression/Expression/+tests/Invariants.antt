use Rattle.filter_expr.proofs.expression.Expression.+tests.Given as goal

abbrev pub decreases-tests : goal.decreases-tests
decreases-tests l = goal.size-tests l
