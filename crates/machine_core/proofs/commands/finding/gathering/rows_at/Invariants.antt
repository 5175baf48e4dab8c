use Rattle.std.proofs.Common.{◌≡◌, ◌++◌, map, drop, slice_get}
use Rattle.std.specs.List.{filter_map}
use Rattle.machine_core.proofs.commands.finding.gathering.rows_at.Given as goal

-- the rows so far, with those of the numbers that are left
abbrev pub invariant-loop-number : goal.invariant-loop-number
invariant-loop-number l =
    map (λ row. row.now) l.found.items ++ filter_map (slice_get l.rows) (drop l.number-index l.numbers)
    ≡ filter_map (slice_get l.rows) l.numbers
