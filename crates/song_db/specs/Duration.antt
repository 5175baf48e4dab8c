-- How long songs play.
use Rattle.std.specs.Prelude.{◌≡◌, ℕ, ◌*◌, ◌/◌, ◌<◌, ◌^◌, List, sum_by}
use Rattle.std.specs.List.{AllByRecursion}
use Rattle.song_db.specs.Row.{Row}

-- milliseconds of a song, rounded down
abbrev pub milliseconds : Row → ℕ
milliseconds row = row.frames * 1000 / row.rate

-- milliseconds of all songs together
abbrev pub total_of : List Row → ℕ
total_of rows = sum_by milliseconds rows

-- the total that is kept beside the rows; each has at most 2^64 - 1 frames
pub record IsTimed (rows : List Row) (total : ℕ) : Type 0 where
  pub sum : total ≡ total_of rows
  pub each : AllByRecursion (λ row. milliseconds row < 2 ^ 74) rows
