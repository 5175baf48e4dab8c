use Rattle.std.proofs.Common.{◌≡◌, ◌-◌, ◌≤◌, ◌++◌, vec_len, vec_capacity}
use Rattle.song_db.specs.Limits.{MAX_CHANGES}
use Rattle.song_db.specs.Scan.{drops_of, puts_of}
use Rattle.song_db.proofs.scan.droppable.Droppable.drop_rest.Given as goal

abbrev pub invariant-drops : goal.invariant-drops
invariant-drops l = record {
  room : MAX_CHANGES ≤ vec_capacity l.changes;
  few : vec_len l.changes ≤ MAX_CHANGES;
  known : l.self.known ≡ l.initial.self.known;
  dropped : drops_of l.changes.items ++ l.self.left ≡ drops_of l.initial.changes.items ++ l.initial.self.left;
  put : puts_of l.changes.items ≡ puts_of l.initial.changes.items;
}

abbrev pub decreases-drops : goal.decreases-drops
decreases-drops l = MAX_CHANGES - vec_len l.changes
