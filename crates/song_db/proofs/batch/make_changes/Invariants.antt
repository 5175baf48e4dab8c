use Rattle.std.proofs.Common.{◌≡◌, ◌+◌, ◌≤◌, ◌++◌, length, vec_len, vec_capacity}
use Rattle.std.specs.Vec.Iter.{into_iter_items}
use Rattle.song_db.specs.Change.{after_batch}
use Rattle.song_db.specs.Effect.{effects_of}
use Rattle.song_db.specs.Kept.{AreKept}
use Rattle.song_db.proofs.batch.make_changes.Given as goal

-- what is made and told so far, and what comes of the other changes
abbrev pub invariant-loop-change : goal.invariant-loop-change
invariant-loop-change l = record {
  kept : AreKept l.rows.items l.told.items l.total l.counts l.index;
  room : vec_len l.rows + length (into_iter_items l.change-iterator) ≤ vec_capacity l.rows;
  told_room : vec_len l.told + length (into_iter_items l.change-iterator) ≤ vec_capacity l.told;
  effects_room : vec_len l.effects + length (into_iter_items l.change-iterator) ≤ vec_capacity l.effects;
  rows : after_batch l.rows.items (into_iter_items l.change-iterator) ≡ after_batch l.initial.rows.items l.fn.changes.items;
  effects : l.effects.items ++ effects_of l.rows.items (into_iter_items l.change-iterator) ≡ l.initial.effects.items ++ effects_of
      l.initial.rows.items l.fn.changes.items;
}
