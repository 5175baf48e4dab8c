use Rattle.std.proofs.Common.{◌≡◌, drop, false}
use Rattle.filter_expr.specs.Parts.{quoted}
use Rattle.filter_expr.proofs.Texts.{after_front}
use Rattle.filter_expr.proofs.parts.quoted.Given as goal

abbrev pub invariant-loop-place : goal.invariant-loop-place
invariant-loop-place l = after_front l.value.items (quoted l.quote l.escaped (drop l.place l.text)) ≡ quoted l.quote false l.text
