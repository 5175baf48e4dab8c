-- Entries are compared as their songs are.
use Rattle.std.specs.Cmp.{IsStrictWeakOrder}
use Rattle.filter_expr.proofs.Rows.{rows_order}
use Rattle.filter_expr.specs.Order.{is_before}
use Rattle.filter_expr.specs.declared.order.SortOrder.{SortOrder}
use Rattle.machine_core.specs.declared.commands.finding.entries.FoundEntry.{FoundEntry}

pub entries_order : (order : SortOrder) → IsStrictWeakOrder (λ (x y : FoundEntry). is_before order x.row.now y.row.now)
entries_order order = record {
  one_way = λ x y h. (rows_order order).one_way x.row y.row h;
  chain = λ x y z h k. (rows_order order).chain x.row y.row z.row h k;
}
