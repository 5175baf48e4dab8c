use Rattle.std.proofs.Common.{◌≡◌, ℕ, ◌<◌, [], get_or}
use Rattle.machine_core.proofs.commands.lists.moving.are_same.Given as goal

-- the songs so far are the same
abbrev pub invariant-loop-at : goal.invariant-loop-at
invariant-loop-at l = (k : ℕ) → k < l.at → get_or l.one k [] ≡ get_or l.other k []
