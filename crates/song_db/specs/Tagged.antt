-- How many rows have a text of a tag.
use Rattle.std.specs.Prelude.{◌≡◌, ℕ, ◌≤◌, Bool, List, count_by, is_some, slice_index_or, Option, Some, None, if◌then◌else◌}
use Rattle.song_files.specs.Tag.{number_of}
use Rattle.song_files.specs.Tags.{first_text}
use Rattle.song_files.specs.declared.tag.Tag.{Tag}
use Rattle.song_db.specs.Limits.{MAX_ROWS}
use Rattle.song_db.specs.Row.{Row}

-- a row has a text of a tag
abbrev pub has_tag : Tag → Row → Bool
has_tag tag row = is_some (first_text row.tags tag)

-- how many do
abbrev pub count_tagged : Tag → List Row → ℕ
count_tagged tag rows = count_by (has_tag tag) rows

-- the count that is kept of a tag, at the place of its number
abbrev pub kept_count : List ℕ → Tag → ℕ
kept_count counts tag = slice_index_or counts (number_of tag) 0

-- of each tag how many rows have it
abbrev pub AreCounted : List Row → List ℕ → Type 0
AreCounted rows counts = (tag : Tag) → kept_count counts tag ≡ count_tagged tag rows

-- none has more than there may be rows
abbrev pub AreFew : List ℕ → Type 0
AreFew counts = (tag : Tag) → kept_count counts tag ≤ MAX_ROWS

-- one where there is a row with the tag
abbrev pub ones_of : Tag → Option Row → ℕ
ones_of tag None = 0
ones_of tag (Some row) = if has_tag tag row then 1 else 0
