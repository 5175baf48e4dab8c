use Rattle.std.proofs.Common.{◌≡◌, ◌++◌, drop, filter}
use Rattle.filter_expr.specs.Meaning.{is_match}
use Rattle.filter_expr.specs.Numbered.{passes_at}
use Rattle.filter_expr.specs.Tree.{tree_of}
use Rattle.filter_expr.specs.declared.case.Case.TheVariants.{Exact}
use Rattle.filter_expr.proofs.select.matching_of.Given as goal

-- those so far, with those of the numbers that are left
abbrev pub invariant-loop-number : goal.invariant-loop-number
invariant-loop-number l =
    l.numbers.items ++ filter (passes_at (is_match Exact (tree_of l.root)) l.rows) (drop l.number-index l.candidates)
    ≡ filter (passes_at (is_match Exact (tree_of l.root)) l.rows) l.candidates
