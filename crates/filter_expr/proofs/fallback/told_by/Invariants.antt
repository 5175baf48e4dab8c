use Rattle.std.proofs.Common.{◌≡◌, length}
use Rattle.filter_expr.specs.Fallback.{told_by}
use Rattle.filter_expr.proofs.fallback.told_by.Given as goal

abbrev pub invariant-loop-rest : goal.invariant-loop-rest
invariant-loop-rest l = told_by l.tags l.told l.rest ≡ told_by l.tags l.fn.tag l.others

abbrev pub decreases-loop-rest : goal.decreases-loop-rest
decreases-loop-rest l = length l.rest
