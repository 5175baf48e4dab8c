use Rattle.std.proofs.Common.{◌≡◌, ℕ, ◌+◌, ◌<◌, [], get_or}
use Rattle.std.specs.declared.cmp.Ordering.TheVariants.{Less}
use Rattle.std.specs.Ordering.{nat_cmp}
use Rattle.std.specs.Cmp.Lexicographic.{slice_cmp}
use Rattle.song_db.specs.Music.{uris_of}
use Rattle.song_db.proofs.order.are_rising.Given as goal

-- each stands before the next so far
abbrev pub invariant-loop-at : goal.invariant-loop-at
invariant-loop-at l = (k : ℕ) → k + 1 < l.at
    → slice_cmp nat_cmp (get_or (uris_of l.known) k []) (get_or (uris_of l.known) (k + 1) []) ≡ Less
