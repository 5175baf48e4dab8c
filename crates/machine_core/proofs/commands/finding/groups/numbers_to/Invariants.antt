use Rattle.std.proofs.Common.{◌≡◌, ◌-◌, ◌≤◌, ◌++◌}
use Rattle.std.specs.List.{range_with_len}
use Rattle.machine_core.proofs.commands.finding.groups.numbers_to.Given as goal

-- the numbers so far, with those that are left
abbrev pub invariant-loop-number : goal.invariant-loop-number
invariant-loop-number l = record {
  numbers : l.numbers.items ++ range_with_len l.number (l.count - l.number) ≡ range_with_len 0 l.count;
  within : l.number ≤ l.count;
}
