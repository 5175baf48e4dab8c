use Rattle.std.proofs.Common.{◌≡◌, drop, take}
use Rattle.regular_expr.specs.Classes.{name_at}
use Rattle.regular_expr.proofs.NameSteps.{behind}
use Rattle.regular_expr.proofs.classes.name_at.Given as goal

-- what is left leads to the same name, behind what was passed
abbrev pub invariant-loop-place : goal.invariant-loop-place
invariant-loop-place l = behind (take l.place l.text) (name_at (drop l.place l.text)) ≡ name_at l.text
