-- The milliseconds of all songs through a change.
use Rattle.std.proofs.Common.{◌≡◌, ℕ, ◌+◌, ◌-◌, ◌*◌, ◌^◌, ◌<◌, ◌≤◌, Bool, true, false, ◌||◌, cond, List, [], ◌∷◌, ◌++◌}
use Rattle.std.proofs.Common.{length, nat_lt, Some, None, refl, sym, ap, ◌∙◌, arith}
use Rattle.std.specs.Prelude.{Option, sum_by}
use Rattle.std.specs.List.{AllByRecursion}
use Rattle.std.specs.declared.cmp.Ordering.{Ordering}
use Rattle.std.specs.declared.cmp.Ordering.TheVariants.{Less, Equal, Greater}
use Rattle.std.specs.Ordering.{match_ordering, is_eq}
use Rattle.std.specs.Str.{bytes_eq}
use Rattle.std.proofs.lemmas.List.Sums.{sum_by-append, sum_by-cons}
use Rattle.std.proofs.lemmas.Map.Keys.{sorted_head, sorted_tail}
use Rattle.std.proofs.lemmas.Map.Text.{is_eq-slice_cmp}
use Rattle.song_db.specs.declared.change.RowChange.{RowChange}
use Rattle.song_db.specs.declared.change.RowChange.TheVariants.{Put, Drop}
use Rattle.song_db.specs.declared.effect.Effect.TheVariants.{Nothing, Came, Replaced, LeftOut}
use Rattle.song_db.specs.Change.{IsDatabase, uri_of, changed, after_change}
use Rattle.song_db.specs.Duration.{milliseconds, total_of, IsTimed}
use Rattle.song_db.specs.Effect.{put_effect, drop_effect, effect_of, loss_of, total_after}
use Rattle.song_db.specs.Gain.{gain_of}
use Rattle.song_db.specs.Limits.{MAX_ROWS}
use Rattle.song_db.specs.Replaced.{by_text, IsRising, replaced}
use Rattle.song_db.specs.Row.{Row, row_uri, row_at}
use Rattle.song_db.specs.Same.{same_row}
use Rattle.song_db.proofs.Batches.{behind_trans, flip}
use Rattle.song_db.proofs.Rising.{texts, apart_greater, apart_less}
use Rattle.song_db.proofs.SameRows.{row_same}
use Rattle.song_db.proofs.Turns.{none_behind}

-- what a row counts for, if there is one
abbrev pub old_of : (Row → ℕ) → Option Row → ℕ
old_of f None = 0
old_of f (Some old) = f old

-- what comes is counted, and what gives way isn't any more
pub sum_replaced : (f : Row → ℕ) (key : List ℕ) (new rows : List Row) → IsRising row_uri rows
    → sum_by f (replaced row_uri key new rows) + old_of f (row_at rows key) ≡ sum_by f rows + sum_by f new
sum_replaced f key new [] rising = omega arith
sum_replaced f key new (x ∷ xs) rising = by_cases (texts key x.uri) refl (sum_replaced f key new xs (sorted_tail (by_text row_uri) x
    xs rising))
  where
    whole : sum_by f (x ∷ xs) ≡ f x + sum_by f xs
    whole = sum_by-cons f x xs

    by_cases : (o : Ordering) → texts key x.uri ≡ o
        → sum_by f (replaced row_uri key new xs) + old_of f (row_at xs key) ≡ sum_by f xs + sum_by f new
        → sum_by f (match_ordering o (new ++ x ∷ xs) (new ++ xs) (x ∷ replaced row_uri key new xs)) + old_of f (row_at (x ∷ xs)
        key) ≡ sum_by f (x ∷ xs) + sum_by f new
    by_cases Less h more =
        let none : row_at xs key ≡ None = none_behind key xs (behind_trans row_uri key x.uri xs h (sorted_head (by_text row_uri) x
        xs rising)) in
        rw (apart_greater key x.uri h, none) (omega (arith, sum_by-append f new (x ∷ xs)))
    by_cases Equal h more =
        let same : bytes_eq key x.uri ≡ true = sym (is_eq-slice_cmp key x.uri) ∙ ap is_eq h in
        rw same (omega (arith, sum_by-append f new xs, whole))
    by_cases Greater h more =
        rw (apart_less x.uri key (flip key x.uri h)) (omega (arith, sum_by-cons f x (replaced row_uri key new xs), whole, more))

abbrev pub old_time : Option Row → ℕ
old_time old = old_of milliseconds old

pub time_replaced : (key : List ℕ) (new rows : List Row) → IsRising row_uri rows
    → total_of (replaced row_uri key new rows) + old_time (row_at rows key) ≡ total_of rows + total_of new
time_replaced key new rows rising = sum_replaced milliseconds key new rows rising

pub all_append : {X : Type 0} (P : X → Type 0) (xs ys : List X) → AllByRecursion P xs → AllByRecursion P ys → AllByRecursion P (xs ++ ys)
all_append P [] ys front back = back
all_append P (x ∷ xs) ys front back = (front.0, all_append P xs ys front.1 back)

all_replaced : {X : Type 0} (P : X → Type 0) (text : X → List ℕ) (key : List ℕ) (new xs : List X) → AllByRecursion P new
    → AllByRecursion P xs → AllByRecursion P (replaced text key new xs)
all_replaced P text key new [] front back = front
all_replaced {X} P text key new (x ∷ xs) front back = by_cases (texts key (text x)) (all_replaced P text key new xs front back.1)
  where
    by_cases : (o : Ordering) → AllByRecursion P (replaced text key new xs)
        → AllByRecursion P (match_ordering o (new ++ x ∷ xs) (new ++ xs) (x ∷ replaced text key new xs))
    by_cases Less rest = all_append P new (x ∷ xs) front back
    by_cases Equal rest = all_append P new xs front back.1
    by_cases Greater rest = (back.0, rest)

-- rows that play no longer than this
abbrev pub Short : Row → Type 0
Short row = milliseconds row < 2 ^ 74

pub total_bound : (rows : List Row) → AllByRecursion (λ row. milliseconds row < 2 ^ 74) rows → total_of rows ≤ length rows * 2 ^ 74
total_bound [] each = omega arith
total_bound (x ∷ xs) each = omega (arith, sum_by-cons milliseconds x xs, each.0, total_bound xs each.1)

pub total_fits : (rows : List Row) (total gain : ℕ) → IsDatabase rows → IsTimed rows total → gain < 2 ^ 74 → total + gain < 2 ^ 128
total_fits rows total gain database timed small = omega (arith, total_bound rows timed.each, timed.sum, database.few)

-- through a change that is made
timed_changed : (rows : List Row) (change : RowChange) (total after : ℕ) → IsDatabase rows → IsTimed rows total
    → gain_of change < 2 ^ 74 → after + old_time (row_at rows (uri_of change)) ≡ total + gain_of change
    → IsTimed (changed change rows) after
timed_changed rows (Put row) total after database timed small is =
    record {
      sum = omega (arith, time_replaced row.uri (row ∷ []) rows database.rising, timed.sum, is);
      each = all_replaced Short row_uri row.uri (row ∷ []) rows (small, tt) timed.each;
    }
timed_changed rows (Drop uri) total after database timed small is =
    record {
      sum = omega (arith, time_replaced uri [] rows database.rising, timed.sum, is);
      each = all_replaced Short row_uri uri [] rows tt timed.each;
    }

-- what goes was counted
pub old_counted : (rows : List Row) (key : List ℕ) → old_time (row_at rows key) ≤ total_of rows
old_counted [] key = omega arith
old_counted (x ∷ xs) key = by_cases (bytes_eq key x.uri) refl (old_counted xs key)
  where
    by_cases : (b : Bool) → bytes_eq key x.uri ≡ b → old_time (row_at xs key) ≤ total_of xs
        → old_time (row_at (x ∷ xs) key) ≤ total_of (x ∷ xs)
    by_cases true h rest = rw h (omega (arith, sum_by-cons milliseconds x xs))
    by_cases false h rest = rw h (omega (arith, sum_by-cons milliseconds x xs, rest))

pub loss_counted : (rows : List Row) (change : RowChange) → loss_of (effect_of rows change) ≤ total_of rows
loss_counted rows (Put row) = by_row (row_at rows row.uri) (old_counted rows row.uri)
  where
    by_row : (old : Option Row) → old_time old ≤ total_of rows → loss_of (put_effect rows row old) ≤ total_of rows
    by_row None h = by_room (nat_lt (length rows) MAX_ROWS)
      where
        by_room : (b : Bool) → loss_of (cond b Came (LeftOut row)) ≤ total_of rows
        by_room true = omega arith
        by_room false = omega arith
    by_row (Some old) h = by_same (same_row old row)
      where
        by_same : (b : Bool) → loss_of (cond b Nothing (Replaced old)) ≤ total_of rows
        by_same true = omega arith
        by_same false = h
loss_counted rows (Drop uri) = by_row (row_at rows uri) (old_counted rows uri)
  where
    by_row : (old : Option Row) → old_time old ≤ total_of rows → loss_of (drop_effect old) ≤ total_of rows
    by_row None h = omega arith
    by_row (Some old) h = h

pub timed_after : (rows : List Row) (change : RowChange) (total : ℕ) → IsDatabase rows → IsTimed rows total
    → gain_of change < 2 ^ 74 → IsTimed (after_change rows change) (total_after total (gain_of change) (effect_of rows change))
timed_after rows (Put row) total database timed small = by_row (row_at rows row.uri) refl
  where
    made : (after : ℕ) → after + old_time (row_at rows row.uri) ≡ total + milliseconds row → IsTimed (changed (Put row) rows) after
    made after is = timed_changed rows (Put row) total after database timed small is

    by_row : (found : Option Row) → row_at rows row.uri ≡ found
        → IsTimed (after_change rows (Put row)) (total_after total (milliseconds row) (effect_of rows (Put row)))
    by_row None absent = rw absent (by_room (nat_lt (length rows) MAX_ROWS))
      where
        by_room : (b : Bool) → IsTimed (cond (false || b) (changed (Put row) rows) rows) (total_after total (milliseconds row)
            (cond b Came (LeftOut row)))
        by_room true = made (total + milliseconds row) (rw absent (omega arith))
        by_room false = timed
    by_row (Some old) there = rw there (by_same (same_row old row) refl)
      where
        counted : milliseconds old ≤ total
        counted = omega (arith, rw there at (old_counted rows row.uri), timed.sum)

        by_same : (b : Bool) → same_row old row ≡ b
            → IsTimed (changed (Put row) rows) (total_after total (milliseconds row) (cond b Nothing (Replaced old)))
        by_same true same = made total (rw there (ap (λ (r : Row). total + milliseconds r) (row_same old row same)))
        by_same false other = made (total - milliseconds old + milliseconds row) (rw there (omega (arith, counted)))
timed_after rows (Drop uri) total database timed small = by_row (row_at rows uri) refl
  where
    by_row : (found : Option Row) → row_at rows uri ≡ found
        → IsTimed (changed (Drop uri) rows) (total_after total 0 (drop_effect (row_at rows uri)))
    by_row None absent = rw absent (timed_changed rows (Drop uri) total total database timed small (rw absent refl))
    by_row (Some old) there =
        let counted : milliseconds old ≤ total = omega (arith, rw there at (old_counted rows uri), timed.sum) in
        rw there (timed_changed rows (Drop uri) total (total - milliseconds old) database timed small (rw there (omega (arith, counted))))
