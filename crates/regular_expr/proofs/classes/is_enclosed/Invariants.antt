use Rattle.std.proofs.Common.{◌≡◌, length}
use Rattle.regular_expr.specs.Classes.{is_enclosed}
use Rattle.regular_expr.proofs.classes.is_enclosed.Given as goal

-- what is left is as the whole
abbrev pub invariant-bytes : goal.invariant-bytes
invariant-bytes l = is_enclosed l.mark l.rest ≡ is_enclosed l.mark l.text

abbrev pub decreases-bytes : goal.decreases-bytes
decreases-bytes l = length l.rest
