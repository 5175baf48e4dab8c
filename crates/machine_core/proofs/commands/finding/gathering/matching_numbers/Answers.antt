use Rattle.std.proofs.Common.{◌≡◌, ◌+◌, ◌++◌, true, drop, ap, sym, ◌∙◌, arith}
use Rattle.filter_expr.specs.Meaning.{is_match}
use Rattle.machine_core.specs.Finding.{matching, numbers_in, part_of}
use Rattle.machine_core.proofs.Finding.Numbers.{number_of_row, one_number}
use Rattle.machine_core.proofs.Finding.Steps.{met}
use Rattle.machine_core.proofs.commands.finding.gathering.matching_numbers.Goals as goal

pub loop-number-preserved : goal.loop-number-preserved
loop-number-preserved c =
    let rows = c.args.rows.now in
    let tree = c.args.filter.now in
    let at = c.loop-number in
    let row = c.index-rows-number.result in
    let behind = matching c.args.case tree (drop (at.number + 1) rows) in
    let holds : is_match c.args.case tree row ≡ true = sym c.in_ok-matches.ensures.member ∙ c.if-not-branch.false in
    let number = number_of_row rows at.number row c.requires.rising (omega arith) c.index-rows-number.is in
    let taken = c.if-not-takes.ensures row behind in
    let left = met c.args.case tree rows at.number row (omega arith) c.index-rows-number.is holds in
    record {
      numbers = ap (λ ns. ns ++ numbers_in rows (part_of c.takes.new.self behind)) c.in_ok-push.ensures.items
          ∙ one_number rows row (part_of c.takes.new.self behind) at.number at.numbers.items _ number
          (ap (λ part. at.numbers.items ++ numbers_in rows part) (sym taken)
          ∙ ap (λ rest. at.numbers.items ++ numbers_in rows (part_of at.part rest)) (sym left) ∙ at.invariant.numbers);
      few = omega (arith, c.in_ok-push.ensures.len, at.invariant.few);
    }
