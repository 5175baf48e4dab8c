-- Songs as they are told: how many, and one more of those that match.
use Rattle.std.proofs.Common.{◌≡◌, ◌≤◌, List, [], ◌∷◌, ◌++◌, length, map, Bor, append_assoc, ap, ◌∙◌, arith}
use Rattle.std.proofs.lemmas.List.{map-append}
use Rattle.song_db.proofs.Batches.{length_replaced}
use Rattle.song_db.specs.Place.{is_under}
use Rattle.song_db.specs.Row.{Row}
use Rattle.song_db.specs.Told.{told_key, told_order, told_under}
use Rattle.song_db.specs.declared.place.Place.{Place}
use Rattle.machine_core.proofs.Finding.Meanings.{fewer}

-- no more than there are
pub told_few : (rows : List Row) → length (told_order rows) ≤ length rows
told_few [] = omega arith
told_few (row ∷ rows) = omega (arith, length_replaced told_key (told_key row) (row ∷ []) (told_order rows), told_few rows)

pub under_few : (rows : List Row) (place : Place) → length (told_under rows place) ≤ length rows
under_few rows place = omega (arith, fewer (λ (row : Row). is_under place row.uri) (told_order rows), told_few rows)

-- a row that was gathered stands before those that are left
pub one_gathered : (found new : List (Bor Row)) (row : Bor Row) (left : List Row) → new ≡ found ++ row ∷ []
    → map (λ row. row.now) new ++ left ≡ map (λ row. row.now) found ++ (row.now ∷ left)
one_gathered found new row left is =
    ap (λ items. map (λ row. row.now) items ++ left) is
    ∙ ap (λ rows. rows ++ left) (map-append (λ (row : Bor Row). row.now) found (row ∷ []))
    ∙ append_assoc (map (λ row. row.now) found) (row.now ∷ []) left
