use Rattle.std.proofs.Common.{◌≡◌, ℕ, ◌+◌, ◌<◌, ◌≤◌, [], get_or, min}
use Rattle.stored_lists.proofs.songs.Songs.would_move.Given as goal

-- the songs so far are equal
abbrev pub invariant-loop-at : goal.invariant-loop-at
invariant-loop-at l = (k : ℕ) → min l.from l.to ≤ k → k < l.at → get_or l.self k [] ≡ get_or l.self (k + 1) []
