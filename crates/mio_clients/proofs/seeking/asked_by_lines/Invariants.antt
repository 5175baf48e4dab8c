use Rattle.std.proofs.Common.{◌≡◌, false, length}
use Rattle.std.specs.List.{list_any}
use Rattle.mio_clients.specs.Seeking.{line_may_ask}
use Rattle.mio_clients.proofs.seeking.asked_by_lines.Given as goal

-- where no line may ask, none of those that are left may
abbrev pub invariant-loop-line : goal.invariant-loop-line
invariant-loop-line l = list_any line_may_ask l.fn.lines ≡ false → list_any line_may_ask l.rest ≡ false

abbrev pub decreases-loop-line : goal.decreases-loop-line
decreases-loop-line l = length l.rest
