use Rattle.std.proofs.Common.{map, take}
use Rattle.machine_core.specs.Grouped.{run_of}
use Rattle.machine_core.proofs.Finding.GroupMaps.{Gathers}
use Rattle.machine_core.proofs.commands.finding.groups.grouped.Given as goal

-- the runs so far are gathered
abbrev pub invariant-loop-run : goal.invariant-loop-run
invariant-loop-run l = Gathers l.groups (map run_of (take l.run-index l.run-items))
