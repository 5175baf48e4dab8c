-- What stands below a folder, by whole parts.
use Rattle.std.specs.Prelude.{ℕ, Bool, true, false, ◌&&◌, ◌||◌, List, [], ◌∷◌, codes, if◌then◌else◌}
use Rattle.std.specs.Str.{bytes_eq}
use denote.Ref.{Bor}
use Rattle.song_db.specs.declared.place.Place.{Place}
use Rattle.song_db.specs.declared.place.Place.TheVariants.{Root, At}
use Rattle.song_db.specs.Uri.{parts}

-- the first parts are those of the folder, and there are more
abbrev pub goes_on : List (List ℕ) → List (List ℕ) → Bool
goes_on [] [] = false
goes_on [] (p ∷ ps) = true
goes_on (f ∷ fs) [] = false
goes_on (f ∷ fs) (p ∷ ps) = bytes_eq f p && goes_on fs ps

abbrev pub is_below : List ℕ → List ℕ → Bool
is_below folder path = goes_on (parts folder) (parts path)

-- every path is under the root
abbrev pub is_under : Place → List ℕ → Bool
is_under Root path = true
is_under (At folder) path = is_below folder.now path

-- the empty text and `/` are the root
abbrev pub place_of : Bor (List ℕ) → Place
place_of text = if bytes_eq text.now [] || bytes_eq text.now (codes "/") then Root else At text
