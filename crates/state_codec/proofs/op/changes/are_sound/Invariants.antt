use Rattle.std.proofs.Common.{ℕ, ◌<◌, slice_index_or}
use Rattle.song_db.specs.declared.change.RowChange.{RowChange}
use Rattle.state_codec.specs.Changes.{IsChange}
use Rattle.state_codec.proofs.op.changes.are_sound.Given as goal

abbrev pub invariant-loop-change : goal.invariant-loop-change
invariant-loop-change l = (k : ℕ) (d : RowChange) → k < l.change-index → IsChange (slice_index_or l.changes k d)
