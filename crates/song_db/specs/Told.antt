-- The order in which songs are told: those of a folder before the folders in it, each folder by its name with all that stands in it; the
-- songs of one folder by album, disc, track and name.
use Rattle.std.specs.Prelude.{ℕ, ◌++◌, Bool, List, [], ◌∷◌, filter, Option, Some, None, if◌then◌else◌}
use Rattle.std.specs.List.{flat_map}
use Rattle.std.specs.Cmp.Lexicographic.{slice_cmp}
use Rattle.std.specs.Ordering.{nat_cmp}
use Rattle.std.specs.declared.cmp.Ordering.{Ordering}
use Rattle.song_files.specs.Tags.{first_text}
use Rattle.song_files.specs.declared.tag.Tag.{Tag}
use Rattle.song_files.specs.declared.tag.Tag.TheVariants.{Album, Disc, Track}
use Rattle.song_head.specs.Numbers.{number_in}
use Rattle.song_db.specs.declared.place.Place.{Place}
use Rattle.song_db.specs.Letters.{text_key}
use Rattle.song_db.specs.Place.{is_under}
use Rattle.song_db.specs.Replaced.{replaced}
use Rattle.song_db.specs.Row.{Row}
use Rattle.song_db.specs.Uri.{parts}

-- no album before all others
abbrev pub album_key : Option (List ℕ) → List ℕ
album_key None = 0 ∷ []
album_key (Some album) = 1 ∷ text_key album

-- the number that the first text of a tag begins with, 0 where there is none
abbrev pub number_key : Tag → Row → ℕ
number_key tag row = number_in (first_text row.tags tag)

-- a song among those of its folder, by its name
abbrev pub song_key : Row → List ℕ → List ℕ
song_key row name = album_key (first_text row.tags Album) ++ number_key Disc row ∷ number_key Track row ∷ text_key name

-- what a folder's name adds
abbrev pub part_key : List ℕ → List ℕ
part_key part = 1 ∷ text_key part

-- a song, by the parts of its path that are left: in the last folder the song itself, before the folders there
abbrev pub path_key : Row → List (List ℕ) → List ℕ
path_key row [] = 0 ∷ song_key row []
path_key row (name ∷ []) = 0 ∷ song_key row name
path_key row (folder ∷ part ∷ path) = part_key folder ++ path_key row (part ∷ path)

-- A song as numbers: the song whose numbers are first is told first. They have all parts of its URI, so no two songs have the same.
unfoldable pub told_key : Row → List ℕ
told_key row = path_key row (parts row.uri)

abbrev pub told_cmp : Row → Row → Ordering
told_cmp a b = slice_cmp nat_cmp (told_key a) (told_key b)

-- what the numbers of all songs below a folder begin with, and those of no other
unfoldable pub folder_key : List ℕ → List ℕ
folder_key folder = flat_map part_key (parts folder)

-- behind that, more than stands there of any song below the folder
abbrev pub folder_end : Bool → List ℕ
folder_end own = if own then 2 ∷ [] else []

-- the songs in the order in which they are told: one after the other takes its place
abbrev pub told_order : List Row → List Row
told_order [] = []
told_order (row ∷ rows) = replaced told_key (told_key row) (row ∷ []) (told_order rows)

-- those under a place
abbrev pub told_under : List Row → Place → List Row
told_under rows place = filter (λ row. is_under place row.uri) (told_order rows)
