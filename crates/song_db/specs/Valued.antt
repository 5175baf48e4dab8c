-- The rows with a value of a tag, by their numbers.
use Rattle.std.specs.Prelude.{ℕ, suc, Bool, List, [], ◌∷◌, if◌then◌else◌}
use Rattle.std.specs.List.{list_any}
use Rattle.std.specs.Str.{bytes_eq}
use Rattle.song_files.specs.Tags.{TagText, texts_of}
use Rattle.song_files.specs.declared.tag.Tag.{Tag}
use Rattle.song_db.specs.Row.{Row}

-- one of the texts of the tag is this one
abbrev pub has_text : List TagText → Tag → List ℕ → Bool
has_text tags tag value = list_any (λ text. bytes_eq text value) (texts_of tags tag)

-- one of the row's values of the tag is this one
abbrev pub has_value : Tag → List ℕ → Row → Bool
has_value tag value row = has_text row.tags tag value

-- the numbers of the rows that pass a test, rising, where the first of all has this number
abbrev pub numbers_from : ℕ → (Row → Bool) → List Row → List ℕ
numbers_from number passes [] = []
numbers_from number passes (row ∷ rows) =
    if passes row then number ∷ numbers_from (suc number) passes rows else numbers_from (suc number) passes rows

abbrev pub numbers_of : (Row → Bool) → List Row → List ℕ
numbers_of passes rows = numbers_from 0 passes rows

-- the numbers of the rows with a value of a tag
abbrev pub rows_with : List Row → Tag → List ℕ → List ℕ
rows_with rows tag value = numbers_of (has_value tag value) rows
