use Rattle.std.proofs.Common.{◌≡◌, ◌++◌, ◌≤◌, ◌+◌, length}
use Rattle.std.specs.Vec.{vec_len, vec_capacity}
use Rattle.std.specs.Vec.Iter.{into_iter_items}
use Rattle.song_db.specs.Change.{after_batch}
use Rattle.machine_core.specs.Scanning.{kept_changes, telling}
use Rattle.machine_core.specs.ScanningRows.{AreTold}
use Rattle.machine_core.proofs.scanning.rows.telling.Given as goal

-- what is told so far, and what comes of the other changes
abbrev pub invariant-loop-change : goal.invariant-loop-change
invariant-loop-change l = record {
  told : AreTold l.songs l.told.items l.count;
  items : l.told.items ++ telling (after_batch l.songs l.told.items) (kept_changes l.profile (into_iter_items l.change-iterator))
      ≡ telling l.songs (kept_changes l.profile l.fn.changes.items);
  room : vec_len l.told + length (into_iter_items l.change-iterator) ≤ vec_capacity l.told;
}
