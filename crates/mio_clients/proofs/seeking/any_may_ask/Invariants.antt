use Rattle.std.proofs.Common.{◌≡◌, length}
use Rattle.std.specs.List.{list_any}
use Rattle.mio_clients.specs.Seeking.{line_may_ask}
use Rattle.mio_clients.proofs.seeking.any_may_ask.Given as goal

-- none of those that were looked at may
abbrev pub invariant-loop-line : goal.invariant-loop-line
invariant-loop-line l = list_any line_may_ask l.fn.lines ≡ list_any line_may_ask l.rest

abbrev pub decreases-loop-line : goal.decreases-loop-line
decreases-loop-line l = length l.rest
