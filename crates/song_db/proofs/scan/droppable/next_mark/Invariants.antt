use Rattle.std.proofs.Common.{◌≡◌, ℕ, List, length, drop}
use Rattle.song_db.specs.Droppable.{picked}
use Rattle.song_db.proofs.scan.droppable.next_mark.Given as goal

-- none is set up to here
abbrev pub invariant-loop-at : goal.invariant-loop-at
invariant-loop-at l = (uris : List (List ℕ)) → length uris ≡ length l.marks
    → picked (drop l.from uris) (drop l.from l.marks) ≡ picked (drop l.at uris) (drop l.at l.marks)
