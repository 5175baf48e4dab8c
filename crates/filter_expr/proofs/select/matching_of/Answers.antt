use Rattle.std.proofs.Common.{◌<◌, length, get_or, sym, ◌∙◌, arith}
use Rattle.filter_expr.specs.Meaning.{is_match}
use Rattle.filter_expr.specs.Numbered.{passes_at}
use Rattle.filter_expr.specs.Tree.{tree_of}
use Rattle.filter_expr.specs.declared.case.Case.TheVariants.{Exact}
use Rattle.filter_expr.proofs.Chosen.{at_row, next_kept, next_left}
use Rattle.filter_expr.proofs.select.matching_of.Goals as goal
use Rattle.filter_expr.proofs.select.matching_of.Goals.{then-matches_exact+in_ok-push, else-matches_exact}

pub loop-number-preserved : goal.loop-number-preserved
loop-number-preserved c =
    let rows = c.args.rows.now in
    let all = c.args.candidates.now in
    let at = c.loop-number.number-index in
    let passes = is_match Exact (tree_of c.args.root.now) in
    let below : at < length all = omega (arith, c.loop-number-test.true) in
    let here = at_row passes rows (get_or all at 0) c.index-rows-number.result (c.requires at 0 below) c.index-rows-number.is
    ∙ sym c.matches_exact.ensures in
    let test = passes_at passes rows in
    let numbers = c.loop-number.numbers.items in
    elim c.if-matches_exact.branch [
      | then-matches_exact+in_ok-push w ↦
          rw (w.numbers-is, w.in_ok-push.ensures.items) (next_kept test all numbers _ at below (here ∙ w.if-matches_exact.true)
          c.loop-number.invariant)
      | else-matches_exact w ↦
          rw w.numbers-is (next_left test all numbers _ at below (here ∙ w.if-matches_exact.false) c.loop-number.invariant)
    ]
