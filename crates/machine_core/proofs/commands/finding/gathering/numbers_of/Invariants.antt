use Rattle.std.proofs.Common.{◌≡◌, ◌≤◌, ◌++◌, length, map, drop}
use Rattle.machine_core.specs.Finding.{numbers_in}
use Rattle.machine_core.proofs.commands.finding.gathering.numbers_of.Given as goal

-- the numbers so far, with those of the rows that are left
abbrev pub invariant-loop-row : goal.invariant-loop-row
invariant-loop-row l = record {
  numbers : l.numbers.items ++ numbers_in l.songs (map (λ row. row.now) (drop l.row-index l.rows))
      ≡ numbers_in l.songs (map (λ row. row.now) l.rows);
  few : length l.numbers.items ≤ l.row-index;
}
