use Rattle.std.proofs.Common.{◌≡◌, ◌≤◌, ◌+◌, ◌*◌, ◌^◌, map, drop}
use Rattle.song_db.specs.Duration.{total_of}
use Rattle.machine_core.proofs.commands.finding.milliseconds_of.Given as goal

-- the time so far, with that of the rows that are left
abbrev pub invariant-loop-row : goal.invariant-loop-row
invariant-loop-row l = record {
  time : l.milliseconds + total_of (map (λ row. row.now) (drop l.row-index l.rows)) ≡ total_of (map (λ row. row.now) l.rows);
  short : l.milliseconds ≤ l.row-index * 2 ^ 74;
}
