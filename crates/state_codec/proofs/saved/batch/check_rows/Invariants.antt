use Rattle.std.proofs.Common.{◌≡◌, take, length}
use Rattle.song_db.specs.Change.{after_batch}
use Rattle.state_codec.proofs.BatchRows.{AllFit}
use Rattle.state_codec.proofs.saved.batch.check_rows.Given as goal

abbrev pub invariant-loop-at : goal.invariant-loop-at
invariant-loop-at l = record {
  fit : AllFit l.songs (take l.at l.changes);
  count : l.count ≡ length (after_batch l.songs (take l.at l.changes));
}
