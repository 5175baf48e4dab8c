use Rattle.std.proofs.Common.{◌≡◌, ap, ◌∙◌, map, arith}
use Rattle.filter_expr.specs.Order.{is_before, sorted}
use Rattle.machine_core.specs.EntryRows.{row_of_entry}
use Rattle.machine_core.specs.Finding.{EntryRow}
use Rattle.machine_core.proofs.Finding.Sorted.{sorted_seen, written_back}
use Rattle.machine_core.proofs.commands.finding.entries.sorted_entries.Goals as goal

pub returns : goal.returns
returns c =
    let order = c.args.order in
    let items = c.in_ok-found.found.items in
    let is : c.sort_entries.new.found ≡ sorted (λ a b. is_before order a.row.now b.row.now) items =
    c.in_ok-sort_entries.ensures ∙ ap (sorted (λ a b. is_before order a.row.now b.row.now)) c.deref_mut.ensures.value in
    ap (map row_of_entry) (written_back c.in_ok-found.found.len c.sort_entries.new.found _ (omega (
      arith,
      c.sort_entries.auto.found,
      c.deref_mut.ensures.len,
    )) ∙ is)
    ∙ sorted_seen row_of_entry (λ (a b : EntryRow). is_before order a.row b.row) items
    ∙ ap (sorted (λ (a b : EntryRow). is_before order a.row b.row)) c.in_ok-found.ensures
