-- Rows that are lent take their places as the rows themselves do, and songs that come one after the other stand as all of them do.
use Rattle.std.proofs.Common.{◌≡◌, ℕ, Bool, List, [], ◌∷◌, ◌++◌, filter, map, take, drop, Bor, refl, sym, ap, ◌∙◌}
use Rattle.std.proofs.Common.{zero, suc, ◌+◌, ◌<◌, ◌≤◌, length, get_or, add-one, arith, subst}
use Rattle.std.specs.declared.cmp.Ordering.{Ordering}
use Rattle.std.specs.declared.cmp.Ordering.TheVariants.{Less, Equal, Greater}
use Rattle.std.specs.Ordering.{match_ordering}
use Rattle.std.specs.List.Sorted.{IsStrictlySortedBy}
use Rattle.std.proofs.lemmas.List.{map-append, set_split}
use Rattle.std.proofs.Math.ListN.{set}
use Rattle.std.proofs.lemmas.List.Kept.{IsStrictlySortedBy-filter}
use Rattle.std.proofs.lemmas.Map.Keys.{sorted_head, sorted_tail}
use Rattle.song_db.specs.Lent.{lent_key, told_from}
use Rattle.song_db.specs.Replaced.{by_text, IsPlaceFor, IsPlaceOf, IsRising, replaced}
use Rattle.song_db.specs.Row.{Row, row_uri}
use Rattle.song_db.specs.Told.{told_key, told_order}
use Rattle.song_db.proofs.Batches.{AreBehind, IsNew, rising_replaced}
use Rattle.song_db.proofs.Exchanged.{exchanged, flip_less}
use Rattle.song_db.proofs.Rising.{texts}
use Rattle.song_db.proofs.ToldOrder.{apart, none_rise, one_new, passing}

abbrev pub rows_of : List (Bor Row) → List Row
rows_of rows = map (λ row. row.now) rows

pub lent_replaced : (key : List ℕ) (new xs : List (Bor Row))
    → rows_of (replaced lent_key key new xs) ≡ replaced told_key key (rows_of new) (rows_of xs)
lent_replaced key new [] = refl
lent_replaced key new (x ∷ xs) = by_cases (texts key (lent_key x)) (lent_replaced key new xs)
  where
    by_cases : (o : Ordering) → rows_of (replaced lent_key key new xs) ≡ replaced told_key key (rows_of new) (rows_of xs)
        → rows_of (match_ordering o (new ++ x ∷ xs) (new ++ xs) (x ∷ replaced lent_key key new xs))
        ≡ match_ordering o (rows_of new ++ x.now ∷ rows_of xs) (rows_of new ++ rows_of xs) (x.now ∷ replaced told_key key (rows_of new)
        (rows_of xs))
    by_cases Less rest = map-append (λ (row : Bor Row). row.now) new (x ∷ xs)
    by_cases Equal rest = map-append (λ (row : Bor Row). row.now) new xs
    by_cases Greater rest = ap (λ l. x.now ∷ l) rest

same_keyed : (row : Bor Row) → IsNew lent_key (told_key row.now) (row ∷ [])
same_keyed row = record { keyed = (refl, tt); few = omega arith }

there : (xs : List (Bor Row)) (row : Bor Row) (at : ℕ) → IsPlaceOf lent_key (told_key row.now) xs at
    → set xs at row ≡ replaced lent_key (told_key row.now) (row ∷ []) xs
there xs row at place = set_split xs at row place.within ∙ sym (place.gives_way (row ∷ []))

-- a row in the place of the one with its URI
pub lent_set : (xs : List (Bor Row)) (row : Bor Row) (at : ℕ) → IsPlaceOf lent_key (told_key row.now) xs at
    → rows_of (set xs at row) ≡ replaced told_key (told_key row.now) (row.now ∷ []) (rows_of xs)
lent_set xs row at place = ap rows_of (there xs row at place) ∙ lent_replaced (told_key row.now) (row ∷ []) xs

pub lent_set_rises : (xs : List (Bor Row)) (row : Bor Row) (at : ℕ) → IsPlaceOf lent_key (told_key row.now) xs at → IsRising lent_key xs
    → IsRising lent_key (set xs at row)
lent_set_rises xs row at place rising =
    subst (IsRising lent_key) (sym (there xs row at place)) (rising_replaced lent_key (told_key row.now) (row ∷ []) xs (same_keyed row) rising)

-- a row that comes
pub lent_came : (xs : List (Bor Row)) (row : Bor Row) (at : ℕ) → IsPlaceFor lent_key (told_key row.now) xs at
    → rows_of (take at xs ++ (row ∷ drop at xs)) ≡ replaced told_key (told_key row.now) (row.now ∷ []) (rows_of xs)
lent_came xs row at place = ap rows_of (sym (place.gives_way (row ∷ []))) ∙ lent_replaced (told_key row.now) (row ∷ []) xs

pub lent_came_rises : (xs : List (Bor Row)) (row : Bor Row) (at : ℕ) → IsPlaceFor lent_key (told_key row.now) xs at → IsRising lent_key xs
    → IsRising lent_key (take at xs ++ (row ∷ drop at xs))
lent_came_rises xs row at place rising =
    subst (IsRising lent_key) (place.gives_way (row ∷ [])) (rising_replaced lent_key (told_key row.now) (row ∷ []) xs (same_keyed row) rising)

pub none_lent : IsRising lent_key []
unfolding IsStrictlySortedBy
none_lent = tt

-- ---- one after the other

put : Row → List Row → List Row
put row told = replaced told_key (told_key row) (row ∷ []) told

puts : List Row → List Row → List Row
puts [] told = told
puts (row ∷ rows) told = put row (puts rows told)

put_rises : (row : Row) (told : List Row) → IsRising told_key told → IsRising told_key (put row told)
unfolding put
put_rises row told rising = rising_replaced told_key (told_key row) (row ∷ []) told (one_new row) rising

puts_rise : (rows told : List Row) → IsRising told_key told → IsRising told_key (puts rows told)
unfolding puts
puts_rise [] told rising = rising
puts_rise (row ∷ rows) told rising = put_rises row (puts rows told) (puts_rise rows told rising)

put_past : (x : Row) (xs told : List Row) → AreBehind row_uri x.uri xs → IsRising told_key told → puts xs (put x told) ≡ put x (puts xs told)
unfolding put puts
put_past x [] told behind rising = refl
put_past x (y ∷ ys) told behind rising =
    let other : texts y.uri x.uri ≡ Equal → ⊥ = λ same. cc (sym (flip_less x.uri y.uri behind.0) ∙ same) in
    ap (put y) (put_past x ys told behind.1 rising)
    ∙ exchanged told_key (told_key y) (told_key x) (y ∷ []) (x ∷ []) (puts ys told) (apart y x other) (one_new y) (one_new x)
    (puts_rise ys told rising)

told_all : (told rows : List Row) → IsRising row_uri rows → IsRising told_key told → told_from told rows ≡ puts rows told
unfolding put puts
told_all told [] rising told_rising = refl
told_all told (x ∷ xs) rising told_rising =
    told_all (put x told) xs (sorted_tail (by_text row_uri) x xs rising) (put_rises x told told_rising)
    ∙ put_past x xs told (sorted_head (by_text row_uri) x xs rising) told_rising

puts_order : (rows : List Row) → puts rows [] ≡ told_order rows
unfolding put puts
puts_order [] = refl
puts_order (x ∷ xs) = ap (put x) (puts_order xs)

-- some of the songs stand as they do among all of them
pub told_passing : (passes : Row → Bool) (rows some : List Row) → IsRising row_uri rows → some ≡ filter passes rows
    → told_from [] some ≡ filter passes (told_order rows)
told_passing passes rows some rising is =
    ap (told_from []) is
    ∙ told_all [] (filter passes rows) (IsStrictlySortedBy-filter (by_text row_uri) passes rows rising) none_rise
    ∙ puts_order (filter passes rows) ∙ sym (passing passes rows rising)

-- one row more has taken its place
lent_suc : (rows : List (Bor Row)) (i : ℕ) (row : Bor Row) → i < length rows → row ≡ get_or rows i row
    → rows_of (drop i rows) ≡ row.now ∷ rows_of (drop (suc i) rows)
lent_suc [] i row within is = absurd (omega arith)
lent_suc (x ∷ xs) zero row within is = ap (λ (r : Bor Row). r.now ∷ rows_of xs) (sym is)
lent_suc (x ∷ xs) (suc i) row within is = lent_suc xs i row (omega arith) is

pub told_next : (rows : List (Bor Row)) (i : ℕ) (row : Bor Row) (so_far more all : List Row) → i < length rows → row ≡ get_or rows i row
    → more ≡ replaced told_key (told_key row.now) (row.now ∷ []) so_far → told_from so_far (rows_of (drop i rows)) ≡ all
    → told_from more (rows_of (drop (i + 1) rows)) ≡ all
told_next rows i row so_far more all within is taken left =
    rw (add-one, taken) (sym (ap (told_from so_far) (lent_suc rows i row within is)) ∙ left)

none_left : (rows : List (Bor Row)) (i : ℕ) → length rows ≤ i → rows_of (drop i rows) ≡ []
none_left [] zero past = refl
none_left [] (suc i) past = refl
none_left (x ∷ xs) zero past = absurd (omega arith)
none_left (x ∷ xs) (suc i) past = none_left xs i (omega arith)

pub told_done : (rows : List (Bor Row)) (i : ℕ) (so_far all : List Row) → length rows ≤ i → told_from so_far (rows_of (drop i rows)) ≡ all
    → so_far ≡ all
told_done rows i so_far all past left = sym (ap (told_from so_far) (none_left rows i past)) ∙ left
