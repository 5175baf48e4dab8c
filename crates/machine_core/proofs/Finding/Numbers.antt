-- The numbers of rows among the songs.
use Rattle.std.proofs.Common.{◌≡◌, ℕ, ◌<◌, Bool, true, false, List, [], ◌∷◌, ◌++◌, length, get_or, nat_lt}
use Rattle.std.proofs.Common.{Some, None, refl, ap, sym, ◌∙◌, append_assoc, arith}
use Rattle.std.proofs.lemmas.Bool.Decides.{nat_tests}
use Rattle.std.proofs.lemmas.List.{get_or_default}
use Rattle.std.proofs.lemmas.List.Folds.{find_at}
use Rattle.std.proofs.lemmas.List.Sums.{position_or_len_is}
use Rattle.std.proofs.lemmas.Map.Keys.{Less-from_sorted}
use Rattle.std.proofs.lemmas.Option.{slice_get-get_or}
use Rattle.std.proofs.lemmas.Slice.Eq.{bytes_eq-Decides}
use Rattle.std.specs.List.{position_or_len}
use Rattle.std.specs.Str.{bytes_eq}
use Rattle.song_db.specs.Query.{number_at}
use Rattle.song_db.specs.Replaced.{IsRising, by_text}
use Rattle.song_db.specs.Row.{Row, row_at, row_uri}
use Rattle.song_db.proofs.Rising.{texts, no_row, apart_less}
use Rattle.machine_core.specs.Finding.{numbers_in}

-- the number of a row is its place
pub number_of_row : (rows : List Row) (i : ℕ) (row : Row) → IsRising row_uri rows → i < length rows → row ≡ get_or rows i row
    → number_at rows row.uri ≡ Some i
number_of_row rows i row rising within is =
    let stands : get_or rows i no_row ≡ row = get_or_default rows i no_row row within ∙ sym is in
    let same : bytes_eq row.uri (get_or rows i no_row).uri ≡ true =
    (bytes_eq-Decides row.uri (get_or rows i no_row).uri).1 (ap (λ (r : Row). r.uri) (sym stands)) in
    let at : position_or_len (λ other. bytes_eq row.uri other.uri) rows ≡ i =
    position_or_len_is (λ other. bytes_eq row.uri other.uri) rows i no_row (omega arith) (λ k below.
    apart_less (get_or rows k no_row).uri row.uri (ap (λ (r : Row). texts (get_or rows k no_row).uri r.uri) (sym stands)
    ∙ Less-from_sorted (by_text row_uri) rows k i no_row rising below within)) (λ _. same) in
    let in_range : nat_lt i (length rows) ≡ true = grind (arith, nat_tests) in
    rw (at, in_range) refl

-- the number of the next row stands behind those before it
pub one_number : (songs : List Row) (row : Row) (rows : List Row) (i : ℕ) (numbers all : List ℕ) → number_at songs row.uri ≡ Some i
    → numbers ++ numbers_in songs (row ∷ rows) ≡ all → (numbers ++ i ∷ []) ++ numbers_in songs rows ≡ all
one_number songs row rows i numbers all at is =
    append_assoc numbers (i ∷ []) (numbers_in songs rows) ∙ (rw at at is)
