use Rattle.std.proofs.Common.{◌≡◌, ap, ◌∙◌, map, arith}
use Rattle.filter_expr.specs.Order.{is_before, sorted}
use Rattle.machine_core.proofs.Finding.Sorted.{sorted_seen, written_back}
use Rattle.machine_core.proofs.commands.finding.gathering.sorted_rows.Goals as goal

pub returns-clause-found : goal.returns-clause-found
returns-clause-found c =
    let order = c.args.order in
    let items = c.in_ok-found.found.items in
    let is : c.sort_rows.new.rows ≡ sorted (λ a b. is_before order a.now b.now) items =
    c.in_ok-sort_rows.ensures.sorted ∙ ap (sorted (λ a b. is_before order a.now b.now)) c.deref_mut.ensures.value in
    ap (map (λ row. row.now)) (written_back c.in_ok-found.found.len c.sort_rows.new.rows _ (omega (
      arith,
      c.sort_rows.auto.rows,
      c.deref_mut.ensures.len,
    )) ∙ is)
    ∙ sorted_seen (λ row. row.now) (is_before order) items ∙ ap (sorted (is_before order)) c.in_ok-found.ensures.found
