use Rattle.std.proofs.Common.{◌≡◌, drop}
use Rattle.std.specs.List.{list_any}
use Rattle.filter_expr.specs.Looked.{is_like_of}
use Rattle.filter_expr.specs.declared.case.Case.TheVariants.{Exact}
use Rattle.filter_expr.proofs.row_text.one_is_like.Given as goal

-- none of the first texts is like it
abbrev pub invariant-loop-at : goal.invariant-loop-at
invariant-loop-at l =
    list_any (is_like_of Exact l.subject l.comparison l.value) (drop l.at l.tags)
    ≡ list_any (is_like_of Exact l.subject l.comparison l.value) l.tags
