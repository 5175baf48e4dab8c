use Rattle.std.proofs.Common.{◌≡◌, ℕ, ◌+◌, ◌<◌, get_or, pos}
use Rattle.flac.specs.Frames.{in_turn}
use Rattle.flac.proofs.side_by_side.copy_two.Given as goal

-- The samples so far.
abbrev pub invariant-loop-k : goal.invariant-loop-k
invariant-loop-k l = (j : ℕ) → j < l.k → get_or l.buffer j (pos 0) ≡ get_or (in_turn l.left l.right) (l.place + j) (pos 0)
