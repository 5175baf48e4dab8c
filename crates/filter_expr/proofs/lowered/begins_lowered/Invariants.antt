use Rattle.std.proofs.Common.{◌≡◌, drop, map}
use Rattle.std.specs.Char.{to_ascii_lowercase}
use Rattle.filter_expr.specs.Meaning.{begins_with}
use Rattle.filter_expr.proofs.lowered.begins_lowered.Given as goal

abbrev pub invariant-loop-wanted : goal.invariant-loop-wanted
invariant-loop-wanted l =
    begins_with (drop l.wanted-index l.part) (map to_ascii_lowercase l.rest) ≡ begins_with l.part (map to_ascii_lowercase l.text)
