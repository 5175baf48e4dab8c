use Rattle.std.proofs.Common.{◌≡◌, drop}
use Rattle.regular_expr.specs.Marks.{is_behind, stands_in}
use Rattle.regular_expr.specs.Shape.{shape_of}
use Rattle.regular_expr.proofs.pattern.stands_in.Given as goal

-- it is found in what is left where it is found in the whole
abbrev pub invariant-loop-byte : goal.invariant-loop-byte
invariant-loop-byte l =
    is_behind l.fold (shape_of l.root) l.before l.marks.items (drop l.byte-index l.text) ≡ stands_in l.fold (shape_of l.root) l.text
