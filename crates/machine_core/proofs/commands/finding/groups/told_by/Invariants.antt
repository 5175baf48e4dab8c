use Rattle.std.proofs.Common.{◌≡◌, [], drop, map}
use Rattle.machine_core.specs.Grouped.{run_of, runs_told}
use Rattle.machine_core.proofs.commands.finding.groups.told_by.Given as goal

-- the runs so far, with what the songs tell that are left
abbrev pub invariant-loop-number : goal.invariant-loop-number
invariant-loop-number l =
    runs_told l.within.profile l.tag l.within.rows.now (map run_of l.runs.items) (drop l.number-index l.numbers)
    ≡ runs_told l.within.profile l.tag l.within.rows.now [] l.numbers
