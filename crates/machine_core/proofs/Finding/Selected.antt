-- The rows with the numbers of those that pass, and the numbers of the rows that pass.
use Rattle.std.proofs.Common.{◌≡◌, ℕ, suc, ◌<◌, ◌≤◌, Bool, true, false, List, [], ◌∷◌, length, map, drop, filter, get_or}
use Rattle.std.proofs.Common.{Some, slice_get, refl, ap, sym, ◌∙◌, arith, length-drop}
use Rattle.std.proofs.Math.Seq.{drop-cons}
use Rattle.std.proofs.lemmas.List.{length-map}
use Rattle.std.proofs.lemmas.Option.{slice_get-get_or}
use Rattle.std.specs.List.{filter_map}
use Rattle.song_db.specs.Query.{number_at}
use Rattle.song_db.specs.Replaced.{IsRising}
use Rattle.song_db.specs.Row.{Row, row_uri}
use Rattle.song_db.specs.Valued.{numbers_from, numbers_of}
use Rattle.machine_core.specs.Finding.{numbers_in}
use Rattle.machine_core.proofs.Finding.Meanings.{fewer}
use Rattle.machine_core.proofs.Finding.Numbers.{number_of_row}

module _ (passes : Row → Bool) (songs : List Row) where
  within : (row : Row) (rest : List Row) (n : ℕ) → drop n songs ≡ row ∷ rest → n < length songs
  within row rest n is = omega (arith, ap length is, length-drop n songs)

  row_here : (row : Row) (rest : List Row) (n : ℕ) → drop n songs ≡ row ∷ rest → get_or songs n row ≡ row
  row_here row rest n is = let more = drop-cons songs n row (within row rest n is) in cc

  rest_here : (row : Row) (rest : List Row) (n : ℕ) → drop n songs ≡ row ∷ rest → drop (suc n) songs ≡ rest
  rest_here row rest n is = let more = drop-cons songs n row (within row rest n is) in cc

  rows_from : (rest : List Row) (n : ℕ) → drop n songs ≡ rest
      → filter_map (slice_get songs) (numbers_from n passes rest) ≡ filter passes rest
  rows_from [] n is = refl
  rows_from (row ∷ rest) n is = by_cases (passes row) refl (rows_from rest (suc n) (rest_here row rest n is))
    where
      at : slice_get songs n ≡ Some row
      at = slice_get-get_or songs n row (within row rest n is) ∙ ap Some (row_here row rest n is)

      by_cases : (b : Bool) → passes row ≡ b
          → filter_map (slice_get songs) (numbers_from (suc n) passes rest) ≡ filter passes rest
          → filter_map (slice_get songs) (numbers_from n passes (row ∷ rest)) ≡ filter passes (row ∷ rest)
      by_cases true b later = rw b (rw at (ap (λ (rows : List Row). row ∷ rows) later))
      by_cases false b later = rw b later

  numbers_found : IsRising row_uri songs → (rest : List Row) (n : ℕ) → drop n songs ≡ rest
      → numbers_in songs (filter passes rest) ≡ numbers_from n passes rest
  numbers_found rising [] n is = refl
  numbers_found rising (row ∷ rest) n is = by_cases (passes row) refl (numbers_found rising rest (suc n) (rest_here row rest n is))
    where
      at : number_at songs row.uri ≡ Some n
      at = number_of_row songs n row rising (within row rest n is) (sym (row_here row rest n is))

      by_cases : (b : Bool) → passes row ≡ b → numbers_in songs (filter passes rest) ≡ numbers_from (suc n) passes rest
          → numbers_in songs (filter passes (row ∷ rest)) ≡ numbers_from n passes (row ∷ rest)
      by_cases true b later = rw b (rw at (ap (λ (ns : List ℕ). n ∷ ns) later))
      by_cases false b later = rw b later

  -- the rows with the numbers of those that pass are those that pass
  pub rows_selected : filter_map (slice_get songs) (numbers_of passes songs) ≡ filter passes songs
  rows_selected = rows_from songs 0 refl

  -- the numbers of the rows that pass, where no two rows have the same URI
  pub numbers_selected : IsRising row_uri songs → numbers_of passes songs ≡ numbers_in songs (filter passes songs)
  numbers_selected rising = sym (numbers_found rising songs 0 refl)

numbers_few : (passes : Row → Bool) (rows : List Row) (n : ℕ) → length (numbers_from n passes rows) ≤ length rows
numbers_few passes [] n = omega arith
numbers_few passes (row ∷ rows) n = by_cases (passes row) refl (numbers_few passes rows (suc n))
  where
    by_cases : (b : Bool) → passes row ≡ b → length (numbers_from (suc n) passes rows) ≤ length rows
        → length (numbers_from n passes (row ∷ rows)) ≤ length (row ∷ rows)
    by_cases true b later = rw b (omega arith)
    by_cases false b later = rw b (omega arith)

-- no more than all rows
pub few_selected : (passes : Row → Bool) (rows : List Row) → length (numbers_of passes rows) ≤ length rows
few_selected passes rows = numbers_few passes rows 0

-- the rows that are read by these numbers
pub selected_rows : (passes : Row → Bool) (songs rows : List Row) (numbers : List ℕ) → rows ≡ songs → numbers ≡ numbers_of passes songs
    → filter_map (slice_get rows) numbers ≡ filter passes songs
selected_rows passes songs rows numbers same is = (λ i. filter_map (slice_get (same i)) (is i)) ∙ rows_selected passes songs

pub few_rows : {X : Type 0} (passes : Row → Bool) (songs : List Row) (view : X → Row) (found : List X)
    → map view found ≡ filter passes songs → length found ≤ length songs
few_rows passes songs view found is =
    let same : length found ≡ length (filter passes songs) = sym (length-map found view) ∙ ap length is in
    omega (arith, same, fewer passes songs)
