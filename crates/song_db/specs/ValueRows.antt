-- The values of a tag, each with the rows that have it.
use Rattle.std.specs.Prelude.{◌≡◌, ℕ, ◌<◌, List, [], length, map, unwrap_or, string_bytes, if◌then◌else◌}
use Rattle.std.specs.declared.alloc.Global.{Global}
use Rattle.std.specs.declared.string.String.{String}
use Rattle.std.specs.declared.vec.Vec.{Vec}
use Rattle.std.specs.Cmp.Lexicographic.{slice_cmp}
use Rattle.std.specs.List.{All}
use Rattle.std.specs.List.Sorted.{IsStrictlySortedBy}
use Rattle.std.specs.Map.{keys_of, lookup, values_of}
use Rattle.std.specs.Ordering.{nat_cmp}
use Rattle.std.specs.Str.{bytes_eq}
use Rattle.song_db.specs.Replaced.{IsRising, replaced}
use Rattle.song_db.specs.Row.{Row, row_uri}

-- the rows under values
abbrev pub Values : Type 0
Values = List (List ℕ × List Row)

-- a map from texts to rows, seen by the bytes of its keys
abbrev pub by_bytes : String Global × Vec Row Global → List ℕ × List Row
by_bytes entry = (string_bytes entry.0, entry.1.items)

abbrev pub by_value : List (String Global × Vec Row Global) → Values
by_value entries = map by_bytes entries

-- the rows under a value, none where it isn't there
abbrev pub rows_of : Values → List ℕ → List Row
rows_of values value = unwrap_or (lookup (bytes_eq value) values) []

-- some rows, rising by URI
pub record IsGroup (rows : List Row) : Type 0 where
  pub rising : IsRising row_uri rows
  pub some : 0 < length rows

-- the values rise by their bytes, each with some rows
pub record AreGroups (values : Values) : Type 0 where
  pub rising : IsStrictlySortedBy (slice_cmp nat_cmp) (keys_of values)
  pub each : All IsGroup (values_of values)

-- what stands under a URI among the rows of one value gives way to something new, and nothing else changes
abbrev pub IsReplacedUnder : List ℕ → List ℕ → List Row → Values → Values → Type 0
IsReplacedUnder value uri new before after =
    (text : List ℕ) → rows_of after text
    ≡ (if bytes_eq value text then replaced row_uri uri new (rows_of before text) else rows_of before text)
