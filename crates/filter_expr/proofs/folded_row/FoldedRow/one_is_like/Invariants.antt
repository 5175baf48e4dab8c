use Rattle.std.proofs.Common.{◌≡◌, drop}
use Rattle.std.specs.List.{list_any}
use Rattle.filter_expr.specs.Looked.{is_like_of}
use Rattle.filter_expr.specs.declared.case.Case.TheVariants.{Folded}
use Rattle.filter_expr.proofs.folded_row.FoldedRow.one_is_like.Given as goal

-- none of the first texts is like it
abbrev pub invariant-loop-at : goal.invariant-loop-at
invariant-loop-at l =
    (l.self ≡ l.fn.self)
    × (list_any (is_like_of Folded l.subject l.comparison l.value) (drop l.at l.tags)
    ≡ list_any (is_like_of Folded l.subject l.comparison l.value) l.tags)
