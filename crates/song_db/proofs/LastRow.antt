-- A row behind the last one leaves a database.
use Rattle.std.proofs.Common.{◌≡◌, ℕ, ◌+◌, ◌<◌, ◌^◌, true, List, [], ◌∷◌, ◌++◌, length, arith}
use Rattle.std.specs.List.Sorted.{IsStrictlySortedBy}
use Rattle.std.proofs.lemmas.List.{length_push}
use Rattle.std.proofs.lemmas.List.Sums.{sum_by_push}
use Rattle.std.proofs.lemmas.Map.Keys.{sorted_head, sorted_tail}
use Rattle.song_db.specs.Change.{IsDatabase}
use Rattle.song_db.specs.Duration.{milliseconds, IsTimed}
use Rattle.song_db.specs.Last.{ends_before}
use Rattle.song_db.specs.Limits.{MAX_ROWS}
use Rattle.song_db.specs.Replaced.{by_text, IsRising}
use Rattle.song_db.specs.Row.{Row, row_uri}
use Rattle.song_db.proofs.Batches.{AreBehind, behind_trans, rising_cons}
use Rattle.song_db.proofs.Rising.{texts, less_is}
use Rattle.song_db.proofs.Timing.{Short, all_append}

one_rises : (row : Row) → IsRising row_uri (row ∷ [])
unfolding IsStrictlySortedBy
one_rises row = (tt, tt)

rising_last : (rows : List Row) (row : Row) → IsRising row_uri rows → ends_before rows row.uri ≡ true → IsRising row_uri (rows ++ row ∷ [])
rising_last [] row rising before = one_rises row
rising_last (x ∷ []) row rising before = rising_cons row_uri x (row ∷ []) (less_is (texts x.uri row.uri) before, tt) (one_rises row)
rising_last (x ∷ y ∷ ys) row rising before =
    let rest : IsRising row_uri (y ∷ (ys ++ row ∷ [])) = rising_last (y ∷ ys) row (sorted_tail (by_text row_uri) x (y ∷ ys) rising)
    before in
    let behind : AreBehind row_uri x.uri (y ∷ ys) = sorted_head (by_text row_uri) x (y ∷ ys) rising in
    rising_cons row_uri x (y ∷ (ys ++ row ∷ [])) (
      behind.0,
      behind_trans row_uri x.uri y.uri (ys ++ row ∷ []) behind.0 (sorted_head
          (by_text row_uri) y (ys ++ row ∷ []) rest),
    ) rest

pub last_database : (rows : List Row) (row : Row) → IsDatabase rows → ends_before rows row.uri ≡ true → length rows < MAX_ROWS
    → IsDatabase (rows ++ row ∷ [])
last_database rows row database before room =
    record { few = omega (arith, length_push rows row); rising = rising_last rows row database.rising before }

pub last_timed : (rows : List Row) (row : Row) (total gain : ℕ) → IsTimed rows total → gain ≡ milliseconds row → gain < 2 ^ 74
    → IsTimed (rows ++ row ∷ []) (total + gain)
last_timed rows row total gain timed is small =
    record {
      sum = omega (arith, sum_by_push milliseconds rows row, timed.sum, is);
      each = all_append Short rows (row ∷ []) timed.each (rw is at small, tt);
    }
