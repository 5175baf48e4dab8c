use Rattle.std.proofs.Common.{rules}
use Rattle.std.proofs.lemmas.Fn.{always_returns_same}
use Rattle.filter_expr.proofs.Sorting.{sorts_so}
use Rattle.filter_expr.specs.Order.{is_before}
use Rattle.machine_core.specs.declared.commands.finding.entries.FoundEntry.{FoundEntry}
use Rattle.machine_core.proofs.Finding.EntryOrder.{entries_order}
use Rattle.machine_core.proofs.commands.finding.entries.sort_entries.Goals as goal

pub returns : goal.returns
returns c =
    let o = entries_order c.args.order in
    let lt = λ (x y : FoundEntry). is_before c.args.order x.row.now y.row.now in
    sorts_so lt o c.args.found.now c.sort_by.new.self
    (c.in_ok-sort_by.ensures.sorted lt o (always_returns_same _ _ _ (λ a r f h. (search rules, search rules))))
    (c.sort_by.ensures.stable lt o (always_returns_same _ _ _ (λ a r f h. (search rules, search rules))))
