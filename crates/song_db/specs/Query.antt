-- What is asked of the rows.
use Rattle.std.specs.Prelude.{ℕ, ◌+◌, Bool, true, ◌==◌, List, [], ◌∷◌, length, take, drop, filter, Option, option_map, is_none}
use Rattle.std.specs.List.{position, list_any, filter_map, flat_map}
use Rattle.std.specs.Str.{bytes_eq}
use Rattle.song_db.specs.declared.place.Place.{Place}
use Rattle.song_db.specs.declared.place.Place.TheVariants.{Root, At}
use Rattle.song_db.specs.Place.{is_below, is_under}
use Rattle.song_db.specs.Replaced.{replaced}
use Rattle.song_db.specs.Row.{Row}
use Rattle.song_files.specs.Tags.{texts_of}
use Rattle.song_files.specs.declared.tag.Tag.{Tag}

-- the place of a URI's row among the rows, from 0 on
abbrev pub number_at : List Row → List ℕ → Option ℕ
number_at rows uri = position (λ row. bytes_eq uri row.uri) rows

-- the songs under a place, by URI
abbrev pub rows_under : List Row → Place → List Row
rows_under rows place = filter (λ row. is_under place row.uri) rows

-- a folder is there where a song stands below it; the root always is
abbrev pub is_folder : List Row → Place → Bool
is_folder rows Root = true
is_folder rows (At folder) = list_any (λ row. is_below folder.now row.uri) rows

-- texts in their order by bytes, each once: one after the other takes its place
abbrev pub with_texts : List (List ℕ) → List (List ℕ) → List (List ℕ)
with_texts known [] = known
with_texts known (text ∷ texts) = with_texts (replaced (λ t. t) text (text ∷ []) known) texts

abbrev pub distinct_of : List (List ℕ) → List (List ℕ)
distinct_of texts = with_texts [] texts

-- the values of a tag: a row may have several
abbrev pub values_of : List Row → Tag → List (List ℕ)
values_of rows tag = distinct_of (flat_map (λ row. texts_of row.tags tag) rows)

-- how many bytes of a path stand for the place: those of the folder, and a slash
abbrev pub skipped : Place → ℕ
skipped Root = 0
skipped (At folder) = length folder.now + 1

-- the folder directly in a place that a path stands below: up to the first slash behind the place
abbrev pub folder_of : Place → List ℕ → Option (List ℕ)
folder_of place path = option_map (λ n. take (skipped place + n) path) (position (λ b. b == 47) (drop (skipped place) path))

-- the folders directly in a place
abbrev pub folders_in : List Row → Place → List (List ℕ)
folders_in rows place = distinct_of (filter_map (λ row. folder_of place row.uri) (rows_under rows place))

-- right in a place, with no folder between
abbrev pub is_right_in : Place → List ℕ → Bool
is_right_in place path = is_none (folder_of place path)

-- the songs right in a place, by URI
abbrev pub songs_in : List Row → Place → List Row
songs_in rows place = filter (λ row. is_right_in place row.uri) (rows_under rows place)
