-- Rows that rise by URI.
use Rattle.std.proofs.Common.{◌≡◌, ◌⊎◌, inl, inr, ℕ, zero, suc, ◌<◌, ◌≤◌, Bool, true, false, List, [], ◌∷◌, length}
use Rattle.std.proofs.Common.{nat_lt, Some, None, get_or, refl, sym, ap, ◌∙◌, arith}
use Rattle.std.specs.declared.cmp.Ordering.{Ordering}
use Rattle.std.specs.declared.cmp.Ordering.TheVariants.{Less, Equal, Greater}
use Rattle.std.proofs.lemmas.Bool.{cases_lt}
use Rattle.std.proofs.lemmas.Bool.Decides.{nat_tests}
use Rattle.std.proofs.lemmas.Map.Text.{is_eq-slice_cmp}
use Rattle.std.proofs.lemmas.Slice.Eq.{bytes_eq-Decides}
use Rattle.std.proofs.lemmas.List.{get_or_default}
use Rattle.std.proofs.lemmas.List.Folds.{find_at}
use Rattle.std.proofs.lemmas.List.Sums.{position_or_len_is}
use Rattle.std.specs.Option.{option_and_then}
use Rattle.std.specs.Str.{bytes_eq}
use Rattle.std.specs.Cmp.Lexicographic.{slice_cmp, nat_list_cmp_total, nat_list_eq_equiv}
use Rattle.std.specs.Ordering.{nat_cmp, is_lt, is_eq, ordering_reverse}
use Rattle.std.specs.List.{position_or_len, slice_get}
use Rattle.std.specs.List.Sorted.{IsPartitionedBy, IsPartitionPoint}
use Rattle.std.proofs.lemmas.Map.Keys.{Less-from_sorted}
use Rattle.song_db.specs.Query.{number_at}
use Rattle.song_db.specs.Row.{Row, row_uri, row_at}
use Rattle.song_db.specs.Replaced.{by_text, IsRising, IsBefore, IsNotBefore}

abbrev pub texts : List ℕ → List ℕ → Ordering
texts = slice_cmp nat_cmp

pub less_is : (o : Ordering) → is_lt o ≡ true → o ≡ Less
less_is Less h = refl
less_is Equal h = absurd (cc)
less_is Greater h = absurd (cc)

-- a binary search can be made
pub partitioned : {X : Type 0} (text : X → List ℕ) (xs : List X) (key : List ℕ) → IsRising text xs
    → IsPartitionedBy (λ x. is_lt (texts (text x) key)) xs
partitioned {X} text xs key rising i j d before within h = by_cases (cases_lt i j)
  where
    by_cases : (i < j) ⊎ (j ≤ i) → is_lt (texts (text (get_or xs i d)) key) ≡ true
    by_cases (inr behind) = let same : i ≡ j = omega arith in rw same h
    by_cases (inl less) = ap is_lt (nat_list_cmp_total.trans (text (get_or xs i d)) (text (get_or xs j d)) key (Less-from_sorted
        (by_text text) xs i j d rising less within) (less_is (texts (text (get_or xs j d)) key) h))

-- a text that isn't the other one
pub apart_less : (a b : List ℕ) → texts a b ≡ Less → bytes_eq b a ≡ false
apart_less a b less = sym (is_eq-slice_cmp b a) ∙ ap is_eq (nat_list_cmp_total.antisymm b a ∙ ap ordering_reverse less)

pub apart_greater : (a b : List ℕ) → texts a b ≡ Less → bytes_eq a b ≡ false
apart_greater a b less = sym (is_eq-slice_cmp a b) ∙ ap is_eq less

abbrev pub no_row : Row
no_row = record { uri = []; rate = 0; channels = 0; first_byte = 0; frames = 0; tags = []; stamp = None }

-- the row of the URI stands at the place where it would be
pub found : (rows : List Row) (uri : List ℕ) (i : ℕ) → IsPartitionPoint (IsBefore row_uri uri) (IsNotBefore row_uri uri) rows i
    → i < length rows → bytes_eq uri (get_or rows i no_row).uri ≡ true → position_or_len (λ row. bytes_eq uri row.uri) rows ≡ i
found rows uri i split within same = position_or_len_is (λ row. bytes_eq uri row.uri) rows i no_row (omega arith) (λ k below.
    apart_less (get_or rows k no_row).uri uri (less_is (texts (get_or rows k no_row).uri uri) (split.0 k no_row (omega arith)
    below))) (λ _. same)

pub not_less : (a b : List ℕ) → is_lt (texts a b) ≡ false → bytes_eq b a ≡ false → texts b a ≡ Less
not_less a b not other = by_cases (texts a b) refl
  where
    by_cases : (o : Ordering) → texts a b ≡ o → texts b a ≡ Less
    by_cases Less h = absurd (cc (ap is_lt h))
    by_cases Equal h = let same : is_eq (texts b a) ≡ true = ap is_eq (nat_list_cmp_total.antisymm b a
        ∙ ap ordering_reverse h) in absurd (cc (is_eq-slice_cmp b a))
    by_cases Greater h = nat_list_cmp_total.antisymm b a ∙ ap ordering_reverse h

pub absent : (rows : List Row) (uri : List ℕ) (i : ℕ) → IsRising row_uri rows
    → IsPartitionPoint (IsBefore row_uri uri) (IsNotBefore row_uri uri) rows i → (i < length rows
    → bytes_eq uri (get_or rows i no_row).uri ≡ false) → position_or_len (λ row. bytes_eq uri row.uri) rows ≡ length rows
absent rows uri i rising split other = position_or_len_is (λ row. bytes_eq uri row.uri) rows (length rows) no_row (omega arith)
    each (λ over. absurd (omega arith))
  where
    behind : (k : ℕ) → i < k → k < length rows → bytes_eq uri (get_or rows k no_row).uri ≡ false
    behind k above within =
        let here : texts uri (get_or rows i no_row).uri ≡ Less = not_less (get_or rows i no_row).uri uri (split.1 i no_row (omega
        arith) (omega arith)) (other (omega arith)) in
        apart_greater uri (get_or rows k no_row).uri (nat_list_cmp_total.trans uri (get_or rows i no_row).uri (get_or rows k
        no_row).uri here (Less-from_sorted (by_text row_uri) rows i k no_row rising above within))

    each : (k : ℕ) → k < length rows → bytes_eq uri (get_or rows k no_row).uri ≡ false
    each k within = by_cases (cases_lt k i) (cases_lt i k)
      where
        by_cases : (k < i) ⊎ (i ≤ k) → (i < k) ⊎ (k ≤ i) → bytes_eq uri (get_or rows k no_row).uri ≡ false
        by_cases (inl below) which = apart_less (get_or rows k no_row).uri uri (less_is (texts (get_or rows k no_row).uri uri)
            (split.0 k no_row (omega arith) below))
        by_cases (inr from) (inl above) = behind k above within
        by_cases (inr from) (inr to) = let same : k ≡ i = omega arith in rw same (other (omega arith))

pub found_number : (rows : List Row) (uri own : List ℕ) (i : ℕ) (row : Row)
    → IsPartitionPoint (IsBefore row_uri uri) (IsNotBefore row_uri uri) rows i → i < length rows → row ≡ get_or rows i row
    → own ≡ row.uri → true ≡ bytes_eq own uri → Some i ≡ number_at rows uri
found_number rows uri own i row split within here is same =
    let stands : get_or rows i no_row ≡ row = get_or_default rows i no_row row within ∙ sym here in
    let equal : own ≡ uri = (bytes_eq-Decides own uri).0 (sym same) in
    let uris : uri ≡ (get_or rows i no_row).uri = sym equal ∙ is ∙ ap (λ (r : Row). r.uri) (sym stands) in
    let at : position_or_len (λ row. bytes_eq uri row.uri) rows ≡ i = found rows uri i split within ((bytes_eq-Decides uri (get_or
    rows i no_row).uri).1 uris) in
    let in_range : nat_lt i (length rows) ≡ true = grind (arith, nat_tests) in
    rw (at, in_range) refl

absent_number : (rows : List Row) (uri : List ℕ) (i : ℕ) → IsRising row_uri rows
    → IsPartitionPoint (IsBefore row_uri uri) (IsNotBefore row_uri uri) rows i → (i < length rows
    → bytes_eq uri (get_or rows i no_row).uri ≡ false) → None ≡ number_at rows uri
absent_number rows uri i rising split other =
    let at : position_or_len (λ row. bytes_eq uri row.uri) rows ≡ length rows = absent rows uri i rising split other in
    let past : nat_lt (length rows) (length rows) ≡ false = grind (arith, nat_tests) in
    rw (at, past) refl

pub absent_end : (rows : List Row) (uri : List ℕ) (i : ℕ) → IsRising row_uri rows
    → IsPartitionPoint (IsBefore row_uri uri) (IsNotBefore row_uri uri) rows i → length rows ≤ i → None ≡ number_at rows uri
absent_end rows uri i rising split past = absent_number rows uri i rising split (λ within. absurd (omega arith))

pub absent_other : (rows : List Row) (uri own : List ℕ) (i : ℕ) (row : Row) → IsRising row_uri rows
    → IsPartitionPoint (IsBefore row_uri uri) (IsNotBefore row_uri uri) rows i → i < length rows → row ≡ get_or rows i row
    → own ≡ row.uri → false ≡ bytes_eq own uri → None ≡ number_at rows uri
absent_other rows uri own i row rising split within here is other =
    let stands : get_or rows i no_row ≡ row = get_or_default rows i no_row row within ∙ sym here in
    let uris : (get_or rows i no_row).uri ≡ own = ap (λ (r : Row). r.uri) stands ∙ sym is in
    absent_number rows uri i rising split (λ _. ap (bytes_eq uri) uris ∙ nat_list_eq_equiv.symm uri own ∙ sym other)

slice_get-past : {X : Type 0} (xs : List X) (i : ℕ) → length xs ≤ i → slice_get xs i ≡ None
slice_get-past [] i past = refl
slice_get-past (x ∷ xs) zero past = absurd (omega arith)
slice_get-past (x ∷ xs) (suc i) past = slice_get-past xs i (omega arith)

-- the row of a number
pub number-row : (rows : List Row) (uri : List ℕ) → option_and_then (slice_get rows) (number_at rows uri) ≡ row_at rows uri
number-row rows uri = by_cases (nat_lt (position_or_len (λ row. bytes_eq uri row.uri) rows) (length rows)) refl
    ∙ sym (find_at (λ row. bytes_eq uri row.uri) rows)
  where
    by_cases : (b : Bool) → nat_lt (position_or_len (λ row. bytes_eq uri row.uri) rows) (length rows) ≡ b
        → option_and_then (slice_get rows) (number_at rows uri) ≡ slice_get rows (position_or_len (λ row. bytes_eq uri row.uri) rows)
    by_cases true within = rw within refl
    by_cases false past = rw past (sym (slice_get-past rows (position_or_len (λ row. bytes_eq uri row.uri) rows) (grind (
      arith,
      nat_tests,
    ))))
