use Rattle.std.proofs.Common.{◌≡◌, ◌≤◌, length}
use Rattle.regular_expr.specs.Counts.{number_from}
use Rattle.regular_expr.proofs.counts.number_from.Given as goal

-- what is left leads to the same number
abbrev pub invariant-loop-rest : goal.invariant-loop-rest
invariant-loop-rest l = (number_from l.number l.rest ≡ number_from l.front l.text) × (l.number ≤ 1000) × (length l.rest ≤ length l.text)

abbrev pub decreases-loop-rest : goal.decreases-loop-rest
decreases-loop-rest l = length l.rest
