-- Rows and paths that are lent, in the order in which songs are told.
use Rattle.std.specs.Prelude.{ℕ, List, [], ◌∷◌, Option, Some, None}
use denote.Ref.{Bor}
use Rattle.song_db.specs.Replaced.{replaced}
use Rattle.song_db.specs.Row.{Row}
use Rattle.song_db.specs.Told.{told_key}
use Rattle.song_db.specs.Uri.{parts}

abbrev pub lent_key : Bor Row → List ℕ
lent_key row = told_key row.now

-- one after the other takes its place among those that stand there
abbrev pub told_from : List Row → List Row → List Row
told_from told [] = told
told_from told (row ∷ rows) = told_from (replaced told_key (told_key row) (row ∷ []) told) rows

-- the parts of what is left of a path, if anything is
abbrev pub rest_parts : Option (Bor (List ℕ)) → List (List ℕ)
rest_parts None = []
rest_parts (Some rest) = parts rest.now
