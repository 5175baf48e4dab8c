use Rattle.std.proofs.Common.{◌≡◌, ◌+◌, length}
use Rattle.std.specs.List.{range_with_len}
use Rattle.machine_core.proofs.named.numbers_from.Given as goal

abbrev pub invariant-loop-number : goal.invariant-loop-number
invariant-loop-number l = record {
  items : l.numbers.items ≡ range_with_len l.fn.first (length l.numbers.items);
  next : l.fn.first + length l.numbers.items ≡ l.number;
}
