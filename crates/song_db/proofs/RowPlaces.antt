-- A row at a place of the rows.
use Rattle.std.proofs.Common.{◌≡◌, ℕ, zero, suc, ◌+◌, ◌-◌, ◌<◌, ◌≤◌, List, [], ◌∷◌, length, take, drop, Some}
use Rattle.std.proofs.Common.{refl, ap, ◌∙◌, arith}
use Rattle.std.specs.Prelude.{Option, option_to_list}
use Rattle.std.specs.List.{slice_get}
use Rattle.std.specs.Ordering.{is_lt}
use Rattle.std.proofs.lemmas.List.{take_all, length-take, length-drop}
use Rattle.song_db.specs.declared.place.Place.TheVariants.{Root}
use Rattle.song_db.specs.Last.{ends_before}
use Rattle.song_db.specs.Query.{rows_under}
use Rattle.song_db.specs.Row.{Row}
use Rattle.song_db.proofs.Folders.{filter_all}
use Rattle.song_db.proofs.Rising.{texts}

one_at : {X : Type 0} (xs : List X) (i : ℕ) → i < length xs → take 1 (drop i xs) ≡ option_to_list (slice_get xs i)
one_at [] i within = absurd (omega arith)
one_at (x ∷ xs) zero within = refl
one_at (x ∷ xs) (suc i) within = one_at xs i (omega arith)

pub single : {X : Type 0} (xs : List X) (i : ℕ) (found : Option X) → i < length xs → slice_get xs i ≡ found
    → take (i + 1 - i) (drop i xs) ≡ option_to_list found
single xs i found within is =
    let one : i + 1 - i ≡ 1 = omega arith in
    rw one (one_at xs i within ∙ ap option_to_list is)

-- the last row decides
pub last_decides : (rows : List Row) (uri : List ℕ) (last : Row) → Some last ≡ slice_get rows (length rows - 1)
    → is_lt (texts last.uri uri) ≡ ends_before rows uri
last_decides [] uri last is = absurd (cc)
last_decides (row ∷ []) uri last is = let same : last ≡ row = cc in ap (λ (r : Row). is_lt (texts r.uri uri)) same
last_decides (row ∷ next ∷ rows) uri last is =
    let one_less : suc (suc (length rows)) - 1 ≡ suc (suc (length rows) - 1) = omega arith in
    last_decides (next ∷ rows) uri last (is ∙ ap (slice_get (row ∷ next ∷ rows)) one_less)

pub root_run : (rows : List Row) → take (length (rows_under rows Root)) rows ≡ rows_under rows Root
root_run rows = let all : rows_under rows Root ≡ rows = filter_all rows in rw all (take_all (length rows) rows (omega arith))

pub root_within : (rows : List Row) → 0 + length (rows_under rows Root) ≤ length rows
root_within rows = omega (arith, ap length (filter_all rows))

pub run_none : (rows : List Row) (s e : ℕ) → s ≡ e → length (take (e - s) (drop s rows)) ≡ 0
run_none rows s e same = omega (arith, length-take (e - s) (drop s rows))

pub run_some : (rows : List Row) (s e : ℕ) → s ≤ e → e ≤ length rows → (s ≡ e → ⊥) → 0 < length (take (e - s) (drop s rows))
run_some rows s e rise within apart = omega (arith, length-take (e - s) (drop s rows), length-drop s rows, apart)
