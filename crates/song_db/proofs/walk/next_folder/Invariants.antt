use Rattle.std.proofs.Common.{◌≡◌, ◌∷◌}
use Rattle.song_db.specs.Walk.{opened}
use Rattle.song_db.proofs.walk.next_folder.Given as goal

-- nothing before this end is opened
abbrev pub invariant-loop-before : goal.invariant-loop-before
invariant-loop-before l = opened l.place l.fn.done (l.row ∷ l.rest) ≡ opened l.place l.before (l.row ∷ l.rest)
