-- The values of an index are those of the rows.
use Rattle.std.proofs.Common.{◌≡◌, ◌⊎◌, inl, inr, ℕ, zero, suc, ◌+◌, ◌<◌, ◌≤◌, Bool, true, false, ◌||◌, cond, List, [], ◌∷◌, ◌++◌, append-nil, length, filter, get_or, take}
use Rattle.std.proofs.Common.{Option, Some, None, nat_lt, refl, sym, ap, ◌∙◌, arith, unwrap_or, add-one, subst}
use Rattle.std.specs.List.{All, Contains, cons_option, filter_map, flat_map, list_any, position_or_len}
use Rattle.std.specs.Map.{keys_of, lookup, values_of}
use Rattle.std.specs.Str.{bytes_eq}
use Rattle.std.proofs.lemmas.Bool.Decides.{nat_tests}
use Rattle.std.proofs.lemmas.List.Elements.{filter_map-append}
use Rattle.std.proofs.lemmas.List.Sums.{position_or_len_is}
use Rattle.std.proofs.lemmas.Map.Keys.{Less-from_sorted}
use Rattle.std.proofs.lemmas.Slice.Eq.{bytes_eq-Decides}
use Rattle.song_files.specs.Tags.{texts_of}
use Rattle.song_files.specs.declared.tag.Tag.{Tag}
use Rattle.song_db.specs.declared.value_index.TagValues.{TagValues}
use Rattle.song_db.specs.Distinct.{IsValue}
use Rattle.song_db.specs.Query as query
use Rattle.song_db.specs.Query.{number_at}
use Rattle.song_db.specs.Replaced.{by_text, IsRising}
use Rattle.song_db.specs.Row.{Row, row_uri}
use Rattle.song_db.specs.Valued.{has_value, numbers_from}
use Rattle.song_db.specs.ValueIndex.{IsIndex, values_under}
use Rattle.song_db.specs.ValueRows.{AreGroups, IsGroup, Values, rows_of}
use Rattle.song_db.proofs.DistinctTexts.{each_value, one_list, passed_from, each_passes, behind, first_or_behind, nothing_rises}
use Rattle.song_db.proofs.Gathered.{distinct_again}
use Rattle.song_db.proofs.Rising.{apart_less, no_row}

-- ---- a value that stands there has rows, and each has it

filled_at : (values : Values) (text : List ℕ) → All IsGroup (values_of values) → Contains (keys_of values) text
    → 0 < length (rows_of values text)
filled_at [] text each there = absurd (omega (arith, there.1))
filled_at (e ∷ es) text each there = by_cases (bytes_eq text e.0) refl
    (λ later. filled_at es text (λ k d below. each (suc k) d (omega arith)) later)
  where
    by_key : bytes_eq text e.0 ≡ false → (e.0 ≡ text) ⊎ Contains (keys_of es) text → Contains (keys_of es) text
    by_key other (inl is) =
        let same : bytes_eq text e.0 ≡ true = (bytes_eq-Decides text e.0).1 (sym is) in
        absurd (cc)
    by_key other (inr later) = later

    by_cases : (b : Bool) → bytes_eq text e.0 ≡ b → (Contains (keys_of es) text → 0 < length (rows_of es text))
        → 0 < length (unwrap_or (cond b (Some e.1) (lookup (bytes_eq text) es)) [])
    by_cases true same rest = (each 0 [] (omega arith)).some
    by_cases false other rest = rest (by_key other (first_or_behind e.0 (keys_of es) text there))

key_of_rows : (values : Values) (text : List ℕ) → 0 < length (rows_of values text) → Contains (keys_of values) text
key_of_rows [] text some = absurd (omega arith)
key_of_rows (e ∷ es) text some = by_cases (bytes_eq text e.0) refl some (key_of_rows es text)
  where
    by_cases : (b : Bool) → bytes_eq text e.0 ≡ b → 0 < length (unwrap_or (cond b (Some e.1) (lookup (bytes_eq text) es)) [])
        → (0 < length (rows_of es text) → Contains (keys_of es) text) → Contains (e.0 ∷ keys_of es) text
    by_cases true same here rest = (0, omega arith, sym ((bytes_eq-Decides text e.0).0 same))
    by_cases false other later rest = behind e.0 (keys_of es) text (rest later)

-- ---- having a value, in two words

some_text : (texts : List (List ℕ)) (value : List ℕ) → list_any (λ text. bytes_eq text value) texts ≡ true → Contains texts value
some_text [] value is = absurd (cc)
some_text (t ∷ ts) value is = by_cases (bytes_eq t value) refl is (some_text ts value)
  where
    by_cases : (b : Bool) → bytes_eq t value ≡ b → (b || list_any (λ text. bytes_eq text value) ts) ≡ true
        → (list_any (λ text. bytes_eq text value) ts ≡ true → Contains ts value) → Contains (t ∷ ts) value
    by_cases true same here rest = (0, omega arith, (bytes_eq-Decides t value).0 same)
    by_cases false other later rest = behind t ts value (rest later)

text_there : (texts : List (List ℕ)) (value : List ℕ) → Contains texts value → list_any (λ text. bytes_eq text value) texts ≡ true
text_there [] value there = absurd (omega (arith, there.1))
text_there (t ∷ ts) value there = by_cases (bytes_eq t value) refl (first_or_behind t ts value there) (text_there ts value)
  where
    by_cases : (b : Bool) → bytes_eq t value ≡ b → (t ≡ value) ⊎ Contains ts value
        → (Contains ts value → list_any (λ text. bytes_eq text value) ts ≡ true)
        → (b || list_any (λ text. bytes_eq text value) ts) ≡ true
    by_cases true same which rest = refl
    by_cases false other (inl is) rest =
        let same : bytes_eq t value ≡ true = (bytes_eq-Decides t value).1 is in
        absurd (cc)
    by_cases false other (inr later) rest = rest later

first_one : (rows : List Row) → 0 < length rows → (row : Row) × Contains rows row
first_one [] some = absurd (omega arith)
first_one (x ∷ xs) some = (x, (0, omega arith, refl))

some_left : (rows : List Row) (row : Row) → Contains rows row → 0 < length rows
some_left [] row there = absurd (omega (arith, there.1))
some_left (x ∷ xs) row there = omega arith

-- the values that stand there are the values of the rows
pub indexed_values : (rows : List Row) (index : List TagValues) (tag : Tag) → IsIndex rows index → AreGroups (values_under index tag)
    → keys_of (values_under index tag) ≡ query.values_of rows tag
indexed_values rows index tag is groups =
    one_list (IsValue rows tag) (keys_of (values_under index tag)) (query.values_of rows tag)
    (record { rising = groups.rising; each = λ text. (told text, has text) }) (each_value rows tag)
  where
    told : (text : List ℕ) → Contains (keys_of (values_under index tag)) text → IsValue rows tag text
    told text there =
        let some : 0 < length (filter (has_value tag text) rows)
        = rw (is.exact tag text) at (filled_at (values_under index tag) text groups.each there) in
        let one = first_one (filter (has_value tag text) rows) some in
        let passes = passed_from (has_value tag text) rows one.0 one.1 in
        (one.0, passes.0, some_text (texts_of one.0.tags tag) text passes.1)

    has : (text : List ℕ) → IsValue rows tag text → Contains (keys_of (values_under index tag)) text
    has text value =
        let one : Contains (filter (has_value tag text) rows) value.0
        = each_passes (has_value tag text) rows value.0 value.1 (text_there (texts_of value.0.tags tag) text value.2) in
        key_of_rows (values_under index tag) text (rw (is.exact tag text) (some_left (filter (has_value tag text) rows) value.0 one))

pub no_indexed_values : (rows : List Row) (index : List TagValues) (tag : Tag) → IsIndex rows index → values_under index tag ≡ []
    → [] ≡ query.values_of rows tag
no_indexed_values rows index tag is none =
    one_list (IsValue rows tag) [] (query.values_of rows tag) (record { rising = nothing_rises; each = λ text. (told text, has text) })
    (each_value rows tag)
  where
    told : (text : List ℕ) → Contains [] text → IsValue rows tag text
    told text there = absurd (omega (arith, there.1))

    has : (text : List ℕ) → IsValue rows tag text → Contains [] text
    has text value =
        let one : Contains (filter (has_value tag text) rows) value.0
        = each_passes (has_value tag text) rows value.0 value.1 (text_there (texts_of value.0.tags tag) text value.2) in
        let some : 0 < length (filter (has_value tag text) rows) = some_left (filter (has_value tag text) rows) value.0 one in
        let empty : filter (has_value tag text) rows ≡ [] = sym (is.exact tag text) ∙ ap (λ values. rows_of values text) none in
        absurd (omega (arith, ap length empty))

-- ---- the numbers of the rows with a value

own_number : (rows : List Row) (k : ℕ) → IsRising row_uri rows → k < length rows → number_at rows (get_or rows k no_row).uri ≡ Some k
own_number rows k rising within =
    let at : position_or_len (λ row. bytes_eq (get_or rows k no_row).uri row.uri) rows ≡ k
    = position_or_len_is (λ row. bytes_eq (get_or rows k no_row).uri row.uri) rows k no_row (omega arith)
    (λ i below. apart_less (get_or rows i no_row).uri (get_or rows k no_row).uri (Less-from_sorted (by_text row_uri) rows i k no_row
    rising below within)) (λ _. (bytes_eq-Decides (get_or rows k no_row).uri (get_or rows k no_row).uri).1 refl) in
    rw at (in_range k (length rows) within)
  where
    in_range : (k n : ℕ) → k < n → cond (nat_lt k n) (Some k) None ≡ Some k
    in_range k n below =
        let yes : nat_lt k n ≡ true = grind (arith, nat_tests) in
        rw yes refl

numbers_on : (all : List Row) (p : Row → Bool) (n : ℕ) (rows : List Row)
    → ((k : ℕ) → k < length rows → number_at all (get_or rows k no_row).uri ≡ Some (n + k))
    → filter_map (λ row. number_at all row.uri) (filter p rows) ≡ numbers_from n p rows
numbers_on all p n [] each = refl
numbers_on all p n (x ∷ xs) each = by_cases (p x)
    (numbers_on all p (suc n) xs (λ k below. each (suc k) (omega arith) ∙ ap (λ m. Some m) (omega arith)))
  where
    here : number_at all x.uri ≡ Some n
    here = each 0 (omega arith) ∙ ap (λ m. Some m) (omega arith)

    by_cases : (b : Bool) → filter_map (λ row. number_at all row.uri) (filter p xs) ≡ numbers_from (suc n) p xs
        → filter_map (λ row. number_at all row.uri) (cond b (x ∷ filter p xs) (filter p xs))
        ≡ cond b (n ∷ numbers_from (suc n) p xs) (numbers_from (suc n) p xs)
    by_cases true rest = rw here (ap (λ l. n ∷ l) rest)
    by_cases false rest = rest

pub numbers_told : (rows some : List Row) (p : Row → Bool) (n : ℕ) (numbers : List ℕ) → IsRising row_uri rows → length some ≤ n
    → numbers ≡ filter_map (λ row. number_at rows row.uri) (take n some) → some ≡ filter p rows → numbers ≡ numbers_from 0 p rows
numbers_told rows some p n numbers rising past told is =
    told ∙ ap (filter_map (λ row. number_at rows row.uri)) (whole some n past ∙ is)
    ∙ numbers_on rows p 0 rows (λ k below. own_number rows k rising below ∙ ap (λ m. Some m) (omega arith))
  where
    whole : (rows : List Row) (n : ℕ) → length rows ≤ n → take n rows ≡ rows
    whole [] zero past = refl
    whole [] (suc n) past = refl
    whole (x ∷ xs) zero past = absurd (omega arith)
    whole (x ∷ xs) (suc n) past = ap (λ l. x ∷ l) (whole xs n (omega arith))

next_taken : (rows : List Row) (i : ℕ) (row : Row) → i < length rows → row ≡ get_or rows i row → take (suc i) rows ≡ take i rows ++ row ∷ []
next_taken [] i row within is = absurd (omega arith)
next_taken (x ∷ xs) zero row within is = ap (λ r. r ∷ []) (sym is)
next_taken (x ∷ xs) (suc i) row within is = ap (λ l. x ∷ l) (next_taken xs i row (omega arith) is)

-- the number of one more row, if it has one
pub number_more : (rows some : List Row) (i : ℕ) (row : Row) (numbers : List ℕ) (n : ℕ) → i < length some → row ≡ get_or some i row
    → Some n ≡ number_at rows row.uri → numbers ≡ filter_map (λ row. number_at rows row.uri) (take i some)
    → numbers ++ n ∷ [] ≡ filter_map (λ row. number_at rows row.uri) (take (i + 1) some)
number_more rows some i row numbers n within is found told =
    let f : Row → Option ℕ = λ row. number_at rows row.uri in
    let more : take (i + 1) some ≡ take i some ++ row ∷ [] = rw add-one (next_taken some i row within is) in
    let one : filter_map f (row ∷ []) ≡ n ∷ [] = ap (λ (o : Option ℕ). cons_option o []) (sym found) in
    ap (λ l. l ++ n ∷ []) told ∙ ap (λ l. filter_map f (take i some) ++ l) (sym one)
    ∙ sym (filter_map-append f (take i some) (row ∷ [])) ∙ ap (filter_map f) (sym more)

pub number_left : (rows some : List Row) (i : ℕ) (row : Row) (numbers : List ℕ) → i < length some → row ≡ get_or some i row
    → None ≡ number_at rows row.uri → numbers ≡ filter_map (λ row. number_at rows row.uri) (take i some)
    → numbers ≡ filter_map (λ row. number_at rows row.uri) (take (i + 1) some)
number_left rows some i row numbers within is found told =
    let f : Row → Option ℕ = λ row. number_at rows row.uri in
    let more : take (i + 1) some ≡ take i some ++ row ∷ [] = rw add-one (next_taken some i row within is) in
    let none : filter_map f (row ∷ []) ≡ [] = ap (λ (o : Option ℕ). cons_option o []) (sym found) in
    told ∙ sym (append-nil (filter_map f (take i some))) ∙ ap (λ l. filter_map f (take i some) ++ l) (sym none)
    ∙ sym (filter_map-append f (take i some) (row ∷ [])) ∙ ap (filter_map f) (sym more)

-- ---- how many values, and which

keys_counted : (values : Values) → length values ≡ length (keys_of values)
keys_counted [] = refl
keys_counted (e ∷ es) = ap suc (keys_counted es)

pub count_told : (rows : List Row) (index : List TagValues) (tag : Tag) (values : Values) (n : ℕ) → IsIndex rows index
    → values ≡ values_under index tag → AreGroups values → n ≡ length values → n ≡ length (query.values_of rows tag)
count_told rows index tag values n is same groups told =
    told ∙ keys_counted values ∙ ap (λ vs. length (keys_of vs)) same
    ∙ ap (λ (l : List (List ℕ)). length l) (indexed_values rows index tag is (subst AreGroups same groups))

pub values_told : (rows : List Row) (index : List TagValues) (tag : Tag) (values : Values) → IsIndex rows index
    → values ≡ values_under index tag → AreGroups values → query.distinct_of (keys_of values) ≡ query.values_of rows tag
values_told rows index tag values is same groups =
    ap query.distinct_of (ap keys_of same ∙ indexed_values rows index tag is (subst AreGroups same groups))
    ∙ distinct_again (flat_map (λ (row : Row). texts_of row.tags tag) rows)
