use Rattle.std.proofs.Common.{[], ◌∷◌, List, take}
use Rattle.song_db.specs.Replaced.{IsRising}
use Rattle.song_db.specs.Row.{Row, row_uri}
use Rattle.song_db.specs.ValueIndex.{IsIndex}
use Rattle.song_db.proofs.Indexed.{IsPartly}
use Rattle.song_db.proofs.value_index.ValueIndex.put_row.Given as goal

-- it is done under the first texts of the row
abbrev pub invariant-loop-at : goal.invariant-loop-at
invariant-loop-at l = (rows : List Row) → IsRising row_uri rows → IsIndex rows l.initial.self
    → IsPartly (take l.at l.row.tags) l.row.uri (l.row ∷ []) rows l.self
