use Rattle.std.proofs.Common.{◌≤◌, length, map}
use Rattle.std.specs.List.{AllByRecursion, flat_map}
use Rattle.song_db.specs.Limits.{MAX_ROWS}
use Rattle.machine_core.specs.Finding.{group_counts}
use Rattle.machine_core.specs.Grouped.{entry_group, rows_at}
use Rattle.machine_core.proofs.Finding.Groups.{counts_in}
use Rattle.machine_core.proofs.Finding.Writers.{Remains}
use Rattle.machine_core.proofs.commands.finding.groups.write_group_counts.Given as goal

-- the lines of the groups that are left, each of which has no more songs than there may be
abbrev pub invariant-loop-text : goal.invariant-loop-text
invariant-loop-text l = record {
  lines : Remains (group_counts l.within.profile l.tag (rows_at l.within.rows.now l.fn.numbers))
      (flat_map (counts_in l.within.profile l.tag l.within.rows.now) (map entry_group l.text-iterator)) l.fn.out l.out;
  few : AllByRecursion (λ g. length g.numbers ≤ MAX_ROWS) (map entry_group l.text-iterator);
}
