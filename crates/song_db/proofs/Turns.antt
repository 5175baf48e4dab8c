-- A change at its turn: what it does, and that it leaves a database.
use Rattle.std.proofs.Common.{◌≡◌, ℕ, suc, ◌<◌, ◌≤◌, Bool, true, false, ◌||◌, cond, List, [], ◌∷◌, zero}
use Rattle.std.proofs.Common.{length, get_or, nat_lt, Some, None, refl, sym, ap, ◌∙◌, arith}
use Rattle.std.specs.declared.cmp.Ordering.{Ordering}
use Rattle.std.specs.declared.cmp.Ordering.TheVariants.{Less, Equal, Greater}
use Rattle.std.specs.Ordering.{match_ordering}
use Rattle.std.proofs.lemmas.Bool.Decides.{nat_tests}
use Rattle.std.proofs.lemmas.List.{set_split, set-get_or}
use Rattle.std.proofs.lemmas.Map.Keys.{sorted_head, sorted_tail}
use Rattle.std.proofs.Math.ListN.{set}
use Rattle.std.specs.List.{slice_get}
use Rattle.song_db.specs.declared.change.RowChange.{RowChange}
use Rattle.song_db.specs.declared.change.RowChange.TheVariants.{Put, Drop}
use Rattle.song_db.specs.declared.effect.Effect.TheVariants.{Replaced}
use Rattle.song_db.specs.Limits.{MAX_ROWS}
use Rattle.song_db.specs.Change.{IsDatabase, changed, has_uri, fits, after_change}
use Rattle.song_db.specs.Effect.{effect_of}
use Rattle.song_db.specs.Replaced.{by_text, IsRising, replaced, IsPlaceOf}
use Rattle.song_db.specs.Row.{Row, row_uri, row_at}
use Rattle.song_db.specs.Same.{same_row}
use Rattle.song_db.proofs.Rising.{texts, apart_greater, apart_less}
use Rattle.song_db.proofs.SameRows.{row_same}
use Rattle.song_db.proofs.Batches.{AreBehind, behind_trans, rising_changed, length_replaced, flip}

-- the effect of a row that comes, and what is there after it
pub other_effect : (rows : List Row) (row old : Row) → Some old ≡ row_at rows row.uri → false ≡ same_row old row
    → Replaced old ≡ effect_of rows (Put row)
other_effect rows row old there other = rw (← there, ← other) refl

pub after_there : (rows : List Row) (row old : Row) → Some old ≡ row_at rows row.uri
    → after_change rows (Put row) ≡ replaced row_uri row.uri (row ∷ []) rows
after_there rows row old there = rw (← there) refl

slice_get_at : {X : Type 0} (xs : List X) (i : ℕ) (x : X) → i < length xs → x ≡ get_or xs i x → Some x ≡ slice_get xs i
slice_get_at [] i x within is = absurd (omega arith)
slice_get_at (y ∷ ys) zero x within is = ap Some is
slice_get_at (y ∷ ys) (suc i) x within is = slice_get_at ys i x (omega arith) is

-- a row that comes to its own place
pub put_there : (rows : List Row) (row old : Row) (at : ℕ) → IsPlaceOf row_uri row.uri rows at
    → slice_get rows at ≡ row_at rows row.uri → old ≡ get_or rows at old → Some old ≡ row_at rows row.uri
put_there rows row old at place found is = slice_get_at rows at old place.within is ∙ found

pub set_after : (rows : List Row) (row old : Row) (at : ℕ) → IsPlaceOf row_uri row.uri rows at
    → slice_get rows at ≡ row_at rows row.uri → old ≡ get_or rows at old → set rows at row ≡ after_change rows (Put row)
set_after rows row old at place found is =
    set_split rows at row place.within ∙ sym (after_there rows row old (put_there rows row old at place found is)
    ∙ place.gives_way (row ∷ []))

pub same_after : (rows : List Row) (row old : Row) (at : ℕ) → IsPlaceOf row_uri row.uri rows at
    → slice_get rows at ≡ row_at rows row.uri → old ≡ get_or rows at old → true ≡ same_row old row → rows ≡ after_change rows (Put row)
same_after rows row old at place found is same =
    let equal : get_or rows at old ≡ row = sym is ∙ row_same old row (sym same) in
    sym (set-get_or rows at old) ∙ ap (set rows at) equal ∙ set_after rows row old at place found is

pub none_behind : (key : List ℕ) (rows : List Row) → AreBehind row_uri key rows → row_at rows key ≡ None
none_behind key [] behind = refl
none_behind key (row ∷ rows) behind = rw (apart_greater key row.uri behind.0) (none_behind key rows behind.1)

-- a row takes the place of another
pub length_there : (row : Row) (rows : List Row) → IsRising row_uri rows → has_uri rows row.uri ≡ true
    → length (replaced row_uri row.uri (row ∷ []) rows) ≡ length rows
length_there row [] rising there = absurd (cc)
length_there row (x ∷ xs) rising there = by_cases (texts row.uri x.uri) refl (length_there row xs (sorted_tail (by_text row_uri) x
    xs rising))
  where
    by_cases : (o : Ordering) → texts row.uri x.uri ≡ o → (has_uri xs row.uri ≡ true
        → length (replaced row_uri row.uri (row ∷ []) xs) ≡ length xs)
        → length (match_ordering o (row ∷ x ∷ xs) (row ∷ xs) (x ∷ replaced row_uri row.uri (row ∷ []) xs)) ≡ length (x ∷ xs)
    by_cases Less h more =
        let none : row_at xs row.uri ≡ None = none_behind row.uri xs (behind_trans row_uri row.uri x.uri xs h (sorted_head (by_text
        row_uri) x xs rising)) in
        let gone = rw (apart_greater row.uri x.uri h, none) at there in
        absurd (cc)
    by_cases Equal h more = refl
    by_cases Greater h more =
        let rest = rw (apart_less x.uri row.uri (flip row.uri x.uri h)) at there in
        ap suc (more rest)

database_changed : (rows : List Row) (change : RowChange) → IsDatabase rows → fits rows change ≡ true → IsDatabase (changed change rows)
database_changed rows (Drop uri) database fit =
    record {
      few = omega (arith, length_replaced row_uri uri [] rows, database.few);
      rising = rising_changed (Drop uri) rows
          database.rising;
    }
database_changed rows (Put row) database fit =
    record { few = by_cases (has_uri rows row.uri) refl fit; rising = rising_changed (Put row) rows database.rising }
  where
    by_cases : (b : Bool) → has_uri rows row.uri ≡ b → (b || nat_lt (length rows) MAX_ROWS) ≡ true
        → length (changed (Put row) rows) ≤ MAX_ROWS
    by_cases true there h = omega (arith, length_there row rows database.rising there, database.few)
    by_cases false absent h =
        let below : length rows < MAX_ROWS = grind (arith, nat_tests) in
        omega (arith, length_replaced row_uri row.uri (row ∷ []) rows)

pub database_after : (rows : List Row) (change : RowChange) → IsDatabase rows → IsDatabase (after_change rows change)
database_after rows change database = by_cases (fits rows change) refl
  where
    by_cases : (b : Bool) → fits rows change ≡ b → IsDatabase (cond b (changed change rows) rows)
    by_cases true fit = database_changed rows change database fit
    by_cases false full = database
