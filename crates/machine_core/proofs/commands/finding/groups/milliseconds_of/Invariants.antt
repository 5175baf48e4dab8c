use Rattle.std.proofs.Common.{◌≡◌, ◌≤◌, ◌+◌, ◌*◌, ◌^◌, drop}
use Rattle.song_db.specs.Duration.{total_of}
use Rattle.machine_core.specs.Grouped.{rows_at}
use Rattle.machine_core.proofs.commands.finding.groups.milliseconds_of.Given as goal

-- the time so far, with that of the rows that are left
abbrev pub invariant-loop-number : goal.invariant-loop-number
invariant-loop-number l = record {
  time : l.milliseconds + total_of (rows_at l.rows (drop l.number-index l.numbers)) ≡ total_of (rows_at l.rows l.numbers);
  short : l.milliseconds ≤ l.number-index * 2 ^ 74;
}
