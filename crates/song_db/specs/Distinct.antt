-- What it means that texts are told once each.
use Rattle.std.specs.Prelude.{◌≡◌, ◌↔◌, ℕ, true, List, Some}
use Rattle.std.specs.List.{Contains}
use Rattle.song_db.specs.declared.place.Place.{Place}
use Rattle.song_db.specs.Place.{is_under}
use Rattle.song_db.specs.Query.{folder_of}
use Rattle.song_db.specs.Replaced.{IsRising}
use Rattle.song_db.specs.Row.{Row}
use Rattle.song_files.specs.Tags.{texts_of}
use Rattle.song_files.specs.declared.tag.Tag.{Tag}

-- all texts with a property and no others, rising, so that none comes twice
pub record AreTextsWith (property : List ℕ → Type 0) (texts : List (List ℕ)) : Type 0 where
  pub rising : IsRising (λ t. t) texts
  pub each : (text : List ℕ) → Contains texts text ↔ property text

-- one of the rows has this text of the tag among its own
abbrev pub IsValue : List Row → Tag → List ℕ → Type 0
IsValue rows tag text = (row : Row) × Contains rows row × Contains (texts_of row.tags tag) text

-- one of the rows under the place stands below this folder, which is directly in the place
abbrev pub IsFolderIn : List Row → Place → List ℕ → Type 0
IsFolderIn rows place folder =
    (row : Row) × Contains rows row × (is_under place row.uri ≡ true) × (folder_of place row.uri ≡ Some folder)
