use Rattle.std.proofs.Common.{◌≡◌, length, map}
use Rattle.std.specs.Char.{to_ascii_lowercase}
use Rattle.filter_expr.specs.Meaning.{occurs_in}
use Rattle.filter_expr.proofs.lowered.occurs_lowered.Given as goal

abbrev pub invariant-loop-rest : goal.invariant-loop-rest
invariant-loop-rest l = occurs_in l.part (map to_ascii_lowercase l.rest) ≡ occurs_in l.part (map to_ascii_lowercase l.text)

abbrev pub decreases-loop-rest : goal.decreases-loop-rest
decreases-loop-rest l = length l.rest
