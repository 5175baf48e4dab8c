use Rattle.regular_expr.proofs.part.Part.+visits.Given as goal

abbrev pub decreases-visits : goal.decreases-visits
decreases-visits l = goal.size-visits l
