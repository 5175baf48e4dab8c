-- The rows by the values of their tags.
use Rattle.std.specs.Prelude.{◌≡◌, ℕ, ◌&&◌, List, [], ◌∷◌, filter, Option, Some, None, if◌then◌else◌}
use Rattle.std.specs.List.{find}
use Rattle.std.specs.Str.{bytes_eq}
use Rattle.song_files.specs.Tag.{is_tag}
use Rattle.song_files.specs.declared.tag.Tag.{Tag}
use Rattle.song_db.specs.declared.change.RowChange.{RowChange}
use Rattle.song_db.specs.declared.change.RowChange.TheVariants.{Put, Drop}
use Rattle.song_db.specs.declared.effect.Effect.{Effect}
use Rattle.song_db.specs.declared.value_index.TagValues.{TagValues}
use Rattle.song_db.specs.Change.{after_change}
use Rattle.song_db.specs.Effect.{effect_of}
use Rattle.song_db.specs.Replaced.{IsRising, replaced}
use Rattle.song_db.specs.Row.{Row, row_at, row_uri}
use Rattle.song_db.specs.Valued.{has_value}
use Rattle.song_db.specs.ValueRows.{Values, rows_of}

abbrev pub values_at : Option TagValues → Values
values_at None = []
values_at (Some one) = one.values

-- the values of a tag with their rows, none where the tag isn't there
abbrev pub values_under : List TagValues → Tag → Values
values_under index tag = values_at (find (λ (one : TagValues). is_tag one.tag tag) index)

-- the rows under a value of a tag
abbrev pub rows_at : List TagValues → Tag → List ℕ → List Row
rows_at index tag value = rows_of (values_under index tag) value

-- the index of some rows: under each value of each tag stand the rows that have it, in their order
pub record IsIndex (rows : List Row) (index : List TagValues) : Type 0 where
  pub exact : (tag : Tag) (value : List ℕ) → rows_at index tag value ≡ filter (has_value tag value) rows

-- where there is an index it is that
abbrev pub IsIndexed : List Row → Option (List TagValues) → Type 0
IsIndexed rows None = Unit {0}
IsIndexed rows (Some index) = IsIndex rows index

-- what stands under a URI among the rows of one value of one tag gives way to something new, and nothing else changes
abbrev pub IsReplacedAt : Tag → List ℕ → List ℕ → List Row → List TagValues → List TagValues → Type 0
IsReplacedAt tag value uri new before after =
    (other : Tag) (text : List ℕ) → rows_at after other text ≡ (if is_tag tag other && bytes_eq value text
    then replaced row_uri uri new (rows_at before other text) else rows_at before other text)

-- a row that has come, where none had its URI
abbrev pub Comes : Row → List TagValues → List TagValues → Type 0
Comes row before after = (rows : List Row) → IsRising row_uri rows → row_at rows row.uri ≡ None → IsIndex rows before
    → IsIndex (replaced row_uri row.uri (row ∷ []) rows) after

-- a row that has gone
abbrev pub Goes : Row → List TagValues → List TagValues → Type 0
Goes row before after = (rows : List Row) → IsRising row_uri rows → row_at rows row.uri ≡ Some row → IsIndex rows before
    → IsIndex (replaced row_uri row.uri [] rows) after

-- the row that a change brings
abbrev pub coming : RowChange → Option Row
coming (Put row) = Some row
coming (Drop uri) = None

-- a change that has been made, with this effect
abbrev pub Follows : Option Row → Effect → List TagValues → List TagValues → Type 0
Follows row effect before after = (rows : List Row) (change : RowChange) → IsRising row_uri rows → row ≡ coming change
    → effect ≡ effect_of rows change → IsIndex rows before → IsIndex (after_change rows change) after
