use Rattle.std.proofs.Common.{◌≡◌, ◌≤◌, ◌++◌, length, drop}
use Rattle.machine_core.specs.Finding.{matching, numbers_in, part_of}
use Rattle.machine_core.proofs.commands.finding.gathering.matching_numbers.Given as goal

-- the numbers so far, with those of the rows that are left
abbrev pub invariant-loop-number : goal.invariant-loop-number
invariant-loop-number l = record {
  numbers : l.numbers.items ++ numbers_in l.rows (part_of l.part (matching l.case l.filter (drop l.number l.rows)))
      ≡ numbers_in l.rows (part_of l.fn.part (matching l.case l.filter l.rows));
  few : length l.numbers.items ≤ l.number;
}
