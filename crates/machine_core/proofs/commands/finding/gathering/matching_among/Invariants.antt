use Rattle.std.proofs.Common.{◌≡◌, ◌≤◌, ◌++◌, length, map, drop}
use Rattle.machine_core.specs.Finding.{matching}
use Rattle.machine_core.proofs.commands.finding.gathering.matching_among.Given as goal

-- those so far, and those of the rows that are left
abbrev pub invariant-loop-row : goal.invariant-loop-row
invariant-loop-row l = record {
  found : map (λ row. row.now) l.found.items ++ matching l.case l.filter (drop l.row-index l.rows) ≡ matching l.case l.filter l.rows;
  few : length l.found.items ≤ l.row-index;
}
