use Rattle.std.proofs.Common.{◌≡◌, length}
use Rattle.song_db.proofs.Picked.{AreUnmarkedWithin}
use Rattle.song_db.proofs.scan.droppable.unmark.Given as goal

-- up to here
abbrev pub invariant-loop-at : goal.invariant-loop-at
invariant-loop-at l = record {
  len : length l.marks ≡ length l.initial.marks;
  so_far : AreUnmarkedWithin l.initial.marks l.marks
      l.start l.at;
}
