-- The order in which songs are told, after one has come or gone.
use Rattle.std.proofs.Common.{◌≡◌, ℕ, ◌+◌, ◌≤◌, Bool, true, false, cond, List, [], ◌∷◌, filter, Some, None, length, refl, sym, ap, ◌∙◌}
use Rattle.std.proofs.Common.{arith}
use Rattle.std.specs.declared.cmp.Ordering.{Ordering}
use Rattle.std.specs.declared.cmp.Ordering.TheVariants.{Less, Equal, Greater}
use Rattle.std.specs.Cmp.Lexicographic.{nat_list_cmp_total}
use Rattle.std.specs.Ordering.{is_eq, match_ordering, ordering_reverse}
use Rattle.std.specs.List.Sorted.{IsStrictlySortedBy}
use Rattle.std.specs.Str.{bytes_eq}
use Rattle.std.proofs.lemmas.Cmp.{tied_itself}
use Rattle.std.proofs.lemmas.Map.Keys.{sorted_head, sorted_tail}
use Rattle.std.proofs.lemmas.Map.Text.{is_eq-slice_cmp}
use Rattle.song_db.specs.Replaced.{by_text, IsRising, replaced}
use Rattle.song_db.specs.Row.{Row, row_at, row_uri}
use Rattle.song_db.specs.Told.{told_key, told_order}
use Rattle.song_db.proofs.Batches.{AreBehind, IsNew, behind_equal, behind_trans, flip, length_replaced, rising_replaced}
use Rattle.song_db.proofs.Exchanged.{came_and_went, exchanged, passing_replaced}
use Rattle.song_db.proofs.Rising.{texts, apart_greater, apart_less}
use Rattle.song_db.proofs.ToldKeys.{same_uri}
use Rattle.song_db.proofs.Turns.{none_behind}

pub one_new : (row : Row) → IsNew told_key (told_key row) (row ∷ [])
one_new row = record { keyed = (refl, tt); few = omega arith }

pub no_new : (key : List ℕ) → IsNew told_key key []
no_new key = record { keyed = tt; few = omega arith }

pub none_rise : IsRising told_key []
unfolding IsStrictlySortedBy
none_rise = tt

pub told_rises : (rows : List Row) → IsRising told_key (told_order rows)
told_rises [] = none_rise
told_rises (row ∷ rows) = rising_replaced told_key (told_key row) (row ∷ []) (told_order rows) (one_new row) (told_rises rows)

-- and are no more than there are
pub told_few : (rows : List Row) → length (told_order rows) ≤ length rows
told_few [] = omega arith
told_few (row ∷ rows) =
    let more : length (replaced told_key (told_key row) (row ∷ []) (told_order rows)) ≤ length (row ∷ []) + length (told_order rows) =
    length_replaced told_key (told_key row) (row ∷ []) (told_order rows) in
    let rest : length (told_order rows) ≤ length rows = told_few rows in
    omega arith

-- one that has gone leaves them rising
pub rises_without : (row : Row) (told : List Row) → IsRising told_key told → IsRising told_key (replaced told_key (told_key row) [] told)
rises_without row told rising = rising_replaced told_key (told_key row) [] told (no_new (told_key row)) rising

-- songs of other URIs have other numbers
pub apart : (a b : Row) → (texts a.uri b.uri ≡ Equal → ⊥) → texts (told_key a) (told_key b) ≡ Equal → ⊥
apart a b other same = other (ap (texts a.uri) (sym (same_uri a b same)) ∙ tied_itself nat_list_cmp_total a.uri)

not_found : (uri : List ℕ) (x : Row) (xs : List Row) → row_at (x ∷ xs) uri ≡ None → (texts x.uri uri ≡ Equal → ⊥) × (row_at xs uri ≡ None)
not_found uri x xs none = by_cases (bytes_eq uri x.uri) refl none
  where
    by_cases : (b : Bool) → bytes_eq uri x.uri ≡ b → cond b (Some x) (row_at xs uri) ≡ None
        → (texts x.uri uri ≡ Equal → ⊥) × (row_at xs uri ≡ None)
    by_cases true is h = absurd (cc)
    by_cases false is h = (
      λ same. let flipped : texts uri x.uri ≡ Equal = nat_list_cmp_total.antisymm uri x.uri ∙ ap ordering_reverse same in
          let equal : bytes_eq uri x.uri ≡ true = sym (is_eq-slice_cmp uri x.uri) ∙ ap is_eq flipped in cc (sym equal ∙ is),
      h,
    )

-- a song comes that isn't there
pub one_came : (row : Row) (rows : List Row) → row_at rows row.uri ≡ None
    → told_order (replaced row_uri row.uri (row ∷ []) rows) ≡ replaced told_key (told_key row) (row ∷ []) (told_order rows)
one_came row [] none = refl
one_came row (x ∷ xs) none = by_cases (texts row.uri x.uri) refl (one_came row xs (not_found row.uri x xs none).1)
  where
    by_cases : (o : Ordering) → texts row.uri x.uri ≡ o
        → told_order (replaced row_uri row.uri (row ∷ []) xs) ≡ replaced told_key (told_key row) (row ∷ []) (told_order xs)
        → told_order (match_ordering o (row ∷ x ∷ xs) (row ∷ xs) (x ∷ replaced row_uri row.uri (row ∷ []) xs))
        ≡ replaced told_key (told_key row) (row ∷ []) (told_order (x ∷ xs))
    by_cases Less is rest = refl
    by_cases Equal is rest =
        absurd ((not_found row.uri x xs none).0 (nat_list_cmp_total.antisymm x.uri row.uri ∙ ap ordering_reverse is))
    by_cases Greater is rest =
        ap (replaced told_key (told_key x) (x ∷ [])) rest
        ∙ exchanged told_key (told_key x) (told_key row) (x ∷ []) (row ∷ []) (told_order xs)
        (apart x row (not_found row.uri x xs none).0) (one_new x) (one_new row) (told_rises xs)

-- one that isn't there doesn't go
pub none_went : (row : Row) (rows : List Row) → row_at rows row.uri ≡ None → replaced told_key (told_key row) [] (told_order rows) ≡ told_order rows
none_went row [] none = refl
none_went row (x ∷ xs) none =
    let other = not_found row.uri x xs none in
    sym (exchanged told_key (told_key x) (told_key row) (x ∷ []) [] (told_order xs) (apart x row other.0) (one_new x)
    (no_new (told_key row)) (told_rises xs)) ∙ ap (replaced told_key (told_key x) (x ∷ [])) (none_went row xs other.1)

-- and one that is there does
pub one_went : (row : Row) (rows : List Row) → IsRising row_uri rows → row_at rows row.uri ≡ Some row
    → told_order (replaced row_uri row.uri [] rows) ≡ replaced told_key (told_key row) [] (told_order rows)
one_went row [] rising found = absurd (cc)
one_went row (x ∷ xs) rising found =
    by_cases (texts row.uri x.uri) refl (one_went row xs (sorted_tail (by_text row_uri) x xs rising))
  where
    behind : AreBehind row_uri x.uri xs
    behind = sorted_head (by_text row_uri) x xs rising

    by_cases : (o : Ordering) → texts row.uri x.uri ≡ o
        → (row_at xs row.uri ≡ Some row → told_order (replaced row_uri row.uri [] xs) ≡ replaced told_key (told_key row) [] (told_order xs))
        → told_order (match_ordering o (x ∷ xs) xs (x ∷ replaced row_uri row.uri [] xs))
        ≡ replaced told_key (told_key row) [] (told_order (x ∷ xs))
    by_cases Less is rest =
        let none : row_at (x ∷ xs) row.uri ≡ None = none_behind row.uri (x ∷ xs) (is, behind_trans row_uri row.uri x.uri xs is behind) in
        absurd (cc)
    by_cases Equal is rest =
        let equal : bytes_eq row.uri x.uri ≡ true = sym (is_eq-slice_cmp row.uri x.uri) ∙ ap is_eq is in
        let here : Some x ≡ Some row = rw equal at found in
        let same : x ≡ row = cc in
        let none : row_at xs row.uri ≡ None = none_behind row.uri xs (behind_equal row_uri row.uri x.uri xs is behind) in
        sym (none_went row xs none) ∙ sym (came_and_went told_key row (told_order xs))
        ∙ ap (λ (r : Row). replaced told_key (told_key row) [] (replaced told_key (told_key r) (r ∷ []) (told_order xs))) (sym same)
    by_cases Greater is rest =
        let later = rw (apart_less x.uri row.uri (flip row.uri x.uri is)) at found in
        let other : texts x.uri row.uri ≡ Equal → ⊥ = λ same. cc (sym (flip row.uri x.uri is) ∙ same) in
        ap (replaced told_key (told_key x) (x ∷ [])) (rest later)
        ∙ exchanged told_key (told_key x) (told_key row) (x ∷ []) [] (told_order xs) (apart x row other) (one_new x)
        (no_new (told_key row)) (told_rises xs)

-- of what is behind a URI none that passes a test has it
none_passes : (p : Row → Bool) (uri : List ℕ) (xs : List Row) → AreBehind row_uri uri xs → row_at (filter p xs) uri ≡ None
none_passes p uri [] behind = refl
none_passes p uri (y ∷ ys) behind = by_test (p y) (none_passes p uri ys behind.1)
  where
    by_test : (b : Bool) → row_at (filter p ys) uri ≡ None → row_at (cond b (y ∷ filter p ys) (filter p ys)) uri ≡ None
    by_test true rest = rw (apart_greater uri y.uri behind.0) rest
    by_test false rest = rest

-- those that pass a test stand in the same order
pub passing : (p : Row → Bool) (rows : List Row) → IsRising row_uri rows → filter p (told_order rows) ≡ told_order (filter p rows)
passing p [] rising = refl
passing p (x ∷ xs) rising = by_cases (p x) refl (passing p xs (sorted_tail (by_text row_uri) x xs rising))
  where
    by_cases : (b : Bool) → p x ≡ b → filter p (told_order xs) ≡ told_order (filter p xs)
        → filter p (told_order (x ∷ xs)) ≡ told_order (cond b (x ∷ filter p xs) (filter p xs))
    by_cases true passes rest =
        let one : filter p (x ∷ []) ≡ x ∷ [] = rw passes refl in
        passing_replaced told_key p (told_key x) (x ∷ []) (told_order xs) (told_rises xs)
        ∙ ap (λ (new : List Row). replaced told_key (told_key x) new (filter p (told_order xs))) one
        ∙ ap (replaced told_key (told_key x) (x ∷ [])) rest
    by_cases false fails rest =
        let one : filter p (x ∷ []) ≡ [] = rw fails refl in
        passing_replaced told_key p (told_key x) (x ∷ []) (told_order xs) (told_rises xs)
        ∙ ap (λ (new : List Row). replaced told_key (told_key x) new (filter p (told_order xs))) one
        ∙ ap (replaced told_key (told_key x) []) rest
        ∙ none_went x (filter p xs) (none_passes p x.uri xs (sorted_head (by_text row_uri) x xs rising))
