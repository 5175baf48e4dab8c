use Rattle.std.proofs.Common.{length, map}
use Rattle.std.specs.List.{AllByRecursion, flat_map}
use Rattle.machine_core.specs.Finding.{group_lines}
use Rattle.machine_core.specs.Grouped.{AreRising, entry_group, rows_at}
use Rattle.machine_core.proofs.Finding.Groups.{lines_in}
use Rattle.machine_core.proofs.Finding.Writers.{Remains}
use Rattle.machine_core.proofs.commands.finding.groups.+write_groups.Given as goal

-- the lines of the groups that are left
abbrev pub invariant-loop-text : goal.invariant-loop-text
invariant-loop-text l = record {
  lines : Remains (group_lines l.within.profile l.fn.tags (rows_at l.within.rows.now l.fn.numbers))
      (flat_map (lines_in l.within.profile l.tag l.within.rows.now l.inner) (map entry_group l.text-iterator)) l.fn.out l.out;
  rising : AllByRecursion (λ g. AreRising g.numbers) (map entry_group l.text-iterator);
}

abbrev pub decreases-write_groups : goal.decreases-write_groups
decreases-write_groups l = length l.tags.now
