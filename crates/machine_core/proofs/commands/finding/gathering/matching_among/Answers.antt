use Rattle.std.proofs.Common.{◌≡◌, true, false, ◌++◌, ◌+◌, map, drop, ap, sym, ◌∙◌, arith}
use Rattle.std.proofs.lemmas.List.{append-nil}
use Rattle.filter_expr.specs.Meaning.{is_match}
use Rattle.machine_core.specs.Finding.{matching}
use Rattle.machine_core.proofs.Finding.Steps.{met, none_left, passed_over}
use Rattle.machine_core.proofs.Finding.Told.{one_gathered}
use Rattle.machine_core.proofs.commands.finding.gathering.matching_among.Goals as goal

pub loop-row-preserved-then-not-branch : goal.loop-row-preserved-then-not-branch
loop-row-preserved-then-not-branch c =
    let rows = c.args.rows.now in
    let tree = c.args.filter.now in
    let at = c.loop-row in
    let other : is_match c.args.case tree c.row-item.result ≡ false = sym c.in_ok-matches.ensures.member ∙ c.if-not-branch.true in
    record {
      found = ap (λ left. map (λ row. row.now) at.found.items ++ left)
          (sym (passed_over c.args.case tree rows at.row-index c.row-item.result (omega arith) c.row-item.is other)) ∙ at.invariant.found;
      few = omega (arith, at.invariant.few);
    }

pub loop-row-preserved : goal.loop-row-preserved
loop-row-preserved c =
    let rows = c.args.rows.now in
    let tree = c.args.filter.now in
    let at = c.loop-row in
    let left = matching c.args.case tree (drop (at.row-index + 1) rows) in
    let same : is_match c.args.case tree c.row-item.result ≡ true = sym c.in_ok-matches.ensures.member ∙ c.if-not-branch.false in
    record {
      found = one_gathered at.found.items _ _ left c.in_ok-push.ensures.items
          ∙ ap (λ left. map (λ row. row.now) at.found.items ++ left)
          (sym (met c.args.case tree rows at.row-index c.row-item.result (omega arith) c.row-item.is same)) ∙ at.invariant.found;
      few = omega (arith, c.in_ok-push.ensures.len, at.invariant.few);
    }

pub returns : goal.returns
returns c =
    let rows = c.args.rows.now in
    let tree = c.args.filter.now in
    let at = c.loop-row in
    let found = map (λ row. row.now) at.found.items in
    record {
      found = sym (append-nil found)
          ∙ ap (λ left. found ++ left) (sym (none_left c.args.case tree rows at.row-index (omega arith))) ∙ at.invariant.found;
      few = omega (arith, at.invariant.few);
    }
