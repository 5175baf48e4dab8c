use Rattle.std.proofs.Common.{take}
use Rattle.song_db.specs.ValueIndex.{IsIndex}
use Rattle.song_db.proofs.value_index.ValueIndex.of.Given as goal

-- the index of the first rows
abbrev pub invariant-loop-row : goal.invariant-loop-row
invariant-loop-row l = IsIndex (take l.row-index l.rows) l.index
