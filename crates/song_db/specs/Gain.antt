-- The milliseconds that a change brings.
use Rattle.std.specs.Prelude.{ℕ}
use Rattle.song_db.specs.declared.change.RowChange.{RowChange}
use Rattle.song_db.specs.declared.change.RowChange.TheVariants.{Put, Drop}
use Rattle.song_db.specs.Duration.{milliseconds}

-- those of its row, if it comes
abbrev pub gain_of : RowChange → ℕ
gain_of (Put row) = milliseconds row
gain_of (Drop uri) = 0
