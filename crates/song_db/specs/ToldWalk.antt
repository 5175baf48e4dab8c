-- The folders and songs below a place, in the order in which they are told.
use Rattle.std.specs.Prelude.{ℕ, ◌++◌, ◌&&◌, not, Bool, false, List, [], ◌∷◌, drop, filter, map, Option, Some, None, if◌then◌else◌}
use Rattle.std.specs.List.{filter_map}
use Rattle.std.specs.Str.{bytes_eq}
use Rattle.song_db.specs.declared.place.Place.{Place}
use Rattle.song_db.specs.Place.{is_below, is_under}
use Rattle.song_db.specs.Query.{folder_of, is_right_in}
use Rattle.song_db.specs.Row.{Row}
use Rattle.song_db.specs.Told.{told_under}
use Rattle.song_db.specs.Walk.{Item, FolderAt, SongOf, beginnings}

-- a folder below the place that a song stands in and the song before it doesn't
abbrev pub is_new : Place → List ℕ → List ℕ → List ℕ → Bool
is_new place before path folder = is_below folder path && (is_under place folder && not (is_below folder before))

-- the new folders of a path, without those among its n shortest beginnings
abbrev pub opened_behind : Place → List ℕ → ℕ → List ℕ → List (List ℕ)
opened_behind place before n path = filter (is_new place before path) (drop n (beginnings path))

-- before each song come the folders that are new
abbrev pub told_from : Place → List ℕ → List Row → List Item
told_from place before [] = []
told_from place before (row ∷ rows) =
    map FolderAt (opened_behind place before 0 row.uri) ++ (SongOf row ∷ told_from place row.uri rows)

-- what is left of it, where so many beginnings of the first path are done
abbrev pub walk_behind : Place → List ℕ → ℕ → List Row → List Item
walk_behind place before n [] = []
walk_behind place before n (row ∷ rows) =
    map FolderAt (opened_behind place before n row.uri) ++ (SongOf row ∷ told_from place row.uri rows)

abbrev pub told_walk : List Row → Place → List Item
told_walk rows place = told_from place [] (told_under rows place)

-- the songs right in a place, of those under it
abbrev pub told_songs_in : Place → List Row → List Row
told_songs_in place rows = filter (λ row. is_right_in place row.uri) rows

abbrev pub is_text : List ℕ → Option (List ℕ) → Bool
is_text text None = false
is_text text (Some other) = bytes_eq text other

-- texts without those that are the one before them
abbrev pub apart : Option (List ℕ) → List (List ℕ) → List (List ℕ)
apart before [] = []
apart before (text ∷ texts) = if is_text text before then apart before texts else text ∷ apart (Some text) texts

-- the folders right in a place that songs under it stand in, as they come one after the other
abbrev pub told_folders_in : Place → List Row → List (List ℕ)
told_folders_in place rows = apart None (filter_map (λ (row : Row). folder_of place row.uri) rows)
