use Rattle.std.proofs.Common.{◌≡◌, drop}
use Rattle.machine_core.specs.Grouped.{with_numbers}
use Rattle.machine_core.proofs.commands.finding.groups.add_numbers.Given as goal

-- the numbers so far, with those that are left
abbrev pub invariant-loop-number : goal.invariant-loop-number
invariant-loop-number l =
    with_numbers l.known.items (drop l.number-index l.numbers) ≡ with_numbers l.initial.known.items l.numbers
