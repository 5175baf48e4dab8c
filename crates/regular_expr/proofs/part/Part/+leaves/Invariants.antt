use Rattle.regular_expr.proofs.part.Part.+leaves.Given as goal

abbrev pub decreases-leaves : goal.decreases-leaves
decreases-leaves l = goal.size-leaves l
