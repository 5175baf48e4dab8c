-- What stands below a place at all depths: folders and songs together.
use Rattle.std.specs.Prelude.{◌≡◌, ℕ, Bool, ◌==◌, ◌&&◌, List, [], ◌∷◌, ◌++◌, map, drop, filter, Option, Some, None}
use Rattle.std.specs.List.{list_any, filter_map, common_prefix_len}
use Rattle.std.specs.List.Sorted.{IsStrictlySortedBy}
use Rattle.std.specs.Str.{bytes_eq}
use Rattle.std.specs.declared.cmp.Ordering.{Ordering}
use Rattle.std.specs.Ordering.{nat_cmp, ordering_then}
use Rattle.std.specs.Cmp.Lexicographic.{slice_cmp}
use Rattle.song_db.specs.declared.place.Place.{Place}
use Rattle.song_db.specs.declared.walk.Listed.{Listed}
use Rattle.song_db.specs.declared.walk.Listed.TheVariants.{Folder, Song}
use Rattle.song_db.specs.Place.{is_below, is_under}
use Rattle.song_db.specs.Query.{rows_under}
use Rattle.song_db.specs.Row.{Row}

-- a folder by its path, or a song
pub data Item : Type 0 where
  FolderAt : List ℕ → Item
  SongOf : Row → Item

-- what contracts see of an item
abbrev pub item_of : Listed → Item
item_of (Folder path) = FolderAt path.now
item_of (Song row) = SongOf row.now

abbrev pub path_of : Item → List ℕ
path_of (FolderAt path) = path
path_of (SongOf row) = row.uri

-- a folder comes before a song of the same path
abbrev pub rank_of : Item → ℕ
rank_of (FolderAt path) = 0
rank_of (SongOf row) = 1

abbrev pub by_path : Item → Item → Ordering
by_path a b = ordering_then (slice_cmp nat_cmp (path_of a) (path_of b)) (nat_cmp (rank_of a) (rank_of b))

abbrev pub folder_path : Item → Option (List ℕ)
folder_path (FolderAt path) = Some path
folder_path (SongOf row) = None

abbrev pub song_row : Item → Option Row
song_row (FolderAt path) = None
song_row (SongOf row) = Some row

abbrev pub folders_among : List Item → List (List ℕ)
folders_among items = filter_map folder_path items

abbrev pub songs_among : List Item → List Row
songs_among items = filter_map song_row items

abbrev pub has_path : List (List ℕ) → List ℕ → Bool
has_path paths path = list_any (λ p. bytes_eq path p) paths

-- below the place, and one of the songs stands below it
abbrev pub is_folder_under : Place → List Row → List ℕ → Bool
is_folder_under place rows path = is_under place path && list_any (λ row. is_below path row.uri) rows

-- all songs under the place, all folders that they stand in below it, and nothing twice, by the bytes of the paths, a folder before
-- a song of the same path. The empty path is no folder, but the root.
pub record IsWalk (rows : List Row) (place : Place) (items : List Item) : Type 0 where
  pub songs : songs_among items ≡ rows_under rows place
  pub folders : (b : ℕ) (path : List ℕ)
      → has_path (folders_among items) (b ∷ path) ≡ is_folder_under place (rows_under rows place) (b ∷ path)
  pub order : IsStrictlySortedBy by_path items

-- what a path begins with, from its first byte on, with one more each; itself is the last
abbrev pub beginnings : List ℕ → List (List ℕ)
beginnings [] = []
beginnings (b ∷ path) = (b ∷ []) ∷ map (λ p. b ∷ p) (beginnings path)

-- how many bytes of a path the next row begins with
abbrev pub shared : List ℕ → List Row → ℕ
shared path [] = 0
shared path (next ∷ rows) = common_prefix_len (λ a b. a == b) path next.uri

-- how many bytes of the first path the second row begins with
abbrev pub shared_first : List Row → ℕ
shared_first [] = 0
shared_first (row ∷ rows) = shared row.uri rows

-- the folders among what the first song's path begins with, without the n shortest beginnings
abbrev pub opened : Place → ℕ → List Row → List (List ℕ)
opened place n [] = []
opened place n (row ∷ rows) = filter (is_folder_under place (row ∷ rows)) (drop n (beginnings row.uri))

-- before each song come the folders that it opens: its path begins with them, and the one before doesn't
abbrev pub walk_from : Place → ℕ → List Row → List Item
walk_from place n [] = []
walk_from place n (row ∷ rows) =
    map FolderAt (opened place n (row ∷ rows)) ++ (SongOf row ∷ walk_from place (shared row.uri rows) rows)

abbrev pub walk_of : List Row → Place → List Item
walk_of rows place = walk_from place 0 (rows_under rows place)
