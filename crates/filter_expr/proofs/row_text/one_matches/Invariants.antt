use Rattle.std.proofs.Common.{◌≡◌, drop}
use Rattle.std.specs.List.{list_any}
use Rattle.filter_expr.specs.Looked.{is_found_of}
use Rattle.filter_expr.proofs.row_text.one_matches.Given as goal

-- the pattern stands in none of the first texts
abbrev pub invariant-loop-at : goal.invariant-loop-at
invariant-loop-at l =
    list_any (is_found_of l.fold l.subject l.pattern) (drop l.at l.tags) ≡ list_any (is_found_of l.fold l.subject l.pattern) l.tags
