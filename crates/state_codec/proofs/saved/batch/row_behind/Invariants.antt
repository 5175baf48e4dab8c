use Rattle.std.proofs.Common.{◌≡◌, take}
use Rattle.std.specs.Option.{option_copied}
use Rattle.song_db.specs.Change.{after_batch}
use Rattle.song_db.specs.Row.{row_at}
use Rattle.state_codec.proofs.saved.batch.row_behind.Given as goal

abbrev pub invariant-loop-change : goal.invariant-loop-change
invariant-loop-change l = option_copied l.row ≡ row_at (after_batch l.songs (take l.change-index l.changes)) l.uri
