-- The rows rise by URI. A change of one row, and a batch of changes.
use Rattle.std.specs.Prelude.{ℕ, ◌≤◌, Bool, true, ◌||◌, nat_lt, List, [], ◌∷◌, length, is_some, if◌then◌else◌}
use Rattle.song_db.specs.declared.change.RowChange.{RowChange}
use Rattle.song_db.specs.declared.change.RowChange.TheVariants.{Put, Drop}
use Rattle.song_db.specs.Limits.{MAX_ROWS}
use Rattle.song_db.specs.Row.{Row, row_uri, row_at}
use Rattle.song_db.specs.Replaced.{IsRising, replaced}

-- rising by URI, so that each stands once, and few enough
pub record IsDatabase (rows : List Row) : Type 0 where
  pub few : length rows ≤ MAX_ROWS
  pub rising : IsRising row_uri rows

abbrev pub uri_of : RowChange → List ℕ
uri_of (Put row) = row.uri
uri_of (Drop uri) = uri

-- what stands under the URI afterwards
abbrev pub rows_of : RowChange → List Row
rows_of (Put row) = row ∷ []
rows_of (Drop uri) = []

-- what stands under its URI gives way to that
abbrev pub changed : RowChange → List Row → List Row
changed change rows = replaced row_uri (uri_of change) (rows_of change) rows

abbrev pub has_uri : List Row → List ℕ → Bool
has_uri rows uri = is_some (row_at rows uri)

-- a new row wants a place among the 65,536
abbrev pub fits : List Row → RowChange → Bool
fits rows (Put row) = has_uri rows row.uri || nat_lt (length rows) MAX_ROWS
fits rows (Drop uri) = true

-- a change that fits is made
abbrev pub after_change : List Row → RowChange → List Row
after_change rows change = if fits rows change then changed change rows else rows

-- a batch makes the changes that fit, in its order
abbrev pub after_batch : List Row → List RowChange → List Row
after_batch rows [] = rows
after_batch rows (change ∷ changes) = after_batch (after_change rows change) changes
