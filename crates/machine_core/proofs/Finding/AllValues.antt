-- The values that all songs tell in the wide profile, by how many have the tag.
use Rattle.std.proofs.Common.{◌≡◌, ℕ, ◌+◌, ◌<◌, ◌≤◌, Bool, true, false, not, ◌||◌, ◌&&◌, cond, List, [], ◌∷◌, ◌++◌, length, Option, Some, None}
use Rattle.std.proofs.Common.{find, map, filter, refl, sym, ap, ◌∙◌, arith}
use Rattle.std.specs.List.{flat_map, list_any}
use Rattle.std.specs.Option.{is_some, option_map}
use Rattle.std.specs.Ordering.{is_eq}
use Rattle.std.proofs.lemmas.List.Folds.{list_any-append}
use Rattle.std.proofs.lemmas.List.Sums.{sum_by-cons}
use Rattle.filter_expr.specs.Fallback.{fallbacks, told_by, told_tag}
use Rattle.profile.specs.declared.profile.Profile.TheVariants.{Wide}
use Rattle.song_files.specs.Tag.{is_tag}
use Rattle.song_files.specs.Tags.{TagText, first_text, texts_of}
use Rattle.song_files.specs.declared.tag.Tag.{Tag}
use Rattle.song_db.specs.Query.{distinct_of, values_of, with_texts}
use Rattle.song_db.specs.Row.{Row}
use Rattle.song_db.specs.Tagged.{count_tagged, has_tag}
use Rattle.song_db.proofs.Rising.{texts}
use Rattle.machine_core.specs.Finding.{or_empty, told_texts, told_values}
use Rattle.song_db.proofs.Gathered.{distinct_is, has, has-with_texts, none_rising, with_texts_rising}
use Rattle.machine_core.proofs.Finding.Values.{texts_none, texts_some}

abbrev own : Tag → Row → List (List ℕ)
own tag row = texts_of row.tags tag

abbrev one_if : Tag → Row → ℕ
one_if tag row = cond (has_tag tag row) 1 0

count_more : (tag : Tag) (x : Row) (xs : List Row) → count_tagged tag (x ∷ xs) ≡ one_if tag x + count_tagged tag xs
count_more tag x xs = sum_by-cons (one_if tag) x xs

count_bound : (tag : Tag) (rows : List Row) → count_tagged tag rows ≤ length rows
count_bound tag [] = omega arith
count_bound tag (x ∷ xs) = by_cases (has_tag tag x) refl (count_bound tag xs)
  where
    by_cases : (b : Bool) → has_tag tag x ≡ b → count_tagged tag xs ≤ length xs → count_tagged tag (x ∷ xs) ≤ length (x ∷ xs)
    by_cases true there few = let one : one_if tag x ≡ 1 = rw there refl in omega (arith, count_more tag x xs, one, few)
    by_cases false lacking few = let one : one_if tag x ≡ 0 = rw lacking refl in omega (arith, count_more tag x xs, one, few)

-- ---- where each song has the tag

told_first : (tags : List TagText) (tag : Tag) (others : List Tag) → is_some (first_text tags tag) ≡ true → told_by tags tag others ≡ tag
told_first tags tag [] there = refl
told_first tags tag (other ∷ others) there = rw there refl

texts_there : (tags : List TagText) (tag : Tag) (text : Option (List ℕ)) → first_text tags tag ≡ text → is_some text ≡ true
    → or_empty Wide (texts_of tags tag) ≡ texts_of tags tag
texts_there tags tag None is there = absurd (cc)
texts_there tags tag (Some text) is there = texts_some tags tag text is

told_having : (tag : Tag) (row : Row) → has_tag tag row ≡ true → told_texts Wide tag row ≡ own tag row
told_having tag row there =
    ap (λ t. or_empty Wide (texts_of row.tags t)) (told_first row.tags tag (fallbacks tag) there)
    ∙ texts_there row.tags tag (first_text row.tags tag) refl there

all_having : (tag : Tag) (rows : List Row) → count_tagged tag rows ≡ length rows
    → flat_map (told_texts Wide tag) rows ≡ flat_map (own tag) rows
all_having tag [] all = refl
all_having tag (x ∷ xs) all = by_cases (has_tag tag x) refl (all_having tag xs)
  where
    by_cases : (b : Bool) → has_tag tag x ≡ b
        → (count_tagged tag xs ≡ length xs → flat_map (told_texts Wide tag) xs ≡ flat_map (own tag) xs)
        → flat_map (told_texts Wide tag) (x ∷ xs) ≡ flat_map (own tag) (x ∷ xs)
    by_cases true there others =
        let one : one_if tag x ≡ 1 = rw there refl in
        let here = told_having tag x there in
        let rest = others (omega (arith, count_more tag x xs, one, all)) in
        (λ i. here i ++ rest i)
    by_cases false lacking others =
        let one : one_if tag x ≡ 0 = rw lacking refl in
        absurd (omega (arith, count_more tag x xs, one, all, count_bound tag xs))

pub having_values : (tag : Tag) (rows : List Row) → count_tagged tag rows ≡ length rows → values_of rows tag ≡ told_values Wide rows tag
having_values tag rows all = sym (ap distinct_of (all_having tag rows all))

-- ---- where no song has it

told_lacking : (tag other : Tag) (row : Row) → fallbacks tag ≡ other ∷ fallbacks other → has_tag tag row ≡ false
    → told_texts Wide other row ≡ told_texts Wide tag row
told_lacking tag other row behind lacking =
    let told : told_tag row.tags tag ≡ told_by row.tags tag (other ∷ fallbacks other) = ap (told_by row.tags tag) behind in
    let next : told_by row.tags tag (other ∷ fallbacks other) ≡ told_tag row.tags other = rw lacking refl in
    ap (λ t. or_empty Wide (texts_of row.tags t)) (sym (told ∙ next))

all_lacking : (tag other : Tag) (rows : List Row) → fallbacks tag ≡ other ∷ fallbacks other → count_tagged tag rows ≡ 0
    → flat_map (told_texts Wide other) rows ≡ flat_map (told_texts Wide tag) rows
all_lacking tag other [] behind none = refl
all_lacking tag other (x ∷ xs) behind none = by_cases (has_tag tag x) refl (all_lacking tag other xs behind)
  where
    by_cases : (b : Bool) → has_tag tag x ≡ b
        → (count_tagged tag xs ≡ 0 → flat_map (told_texts Wide other) xs ≡ flat_map (told_texts Wide tag) xs)
        → flat_map (told_texts Wide other) (x ∷ xs) ≡ flat_map (told_texts Wide tag) (x ∷ xs)
    by_cases true there others =
        let one : one_if tag x ≡ 1 = rw there refl in
        absurd (omega (arith, count_more tag x xs, one, none))
    by_cases false lacking others =
        let here = told_lacking tag other x behind lacking in
        let rest = others (omega (arith, count_more tag x xs, none)) in
        (λ i. here i ++ rest i)

pub lacking_values : (tag other : Tag) (rows : List Row) → fallbacks tag ≡ other ∷ fallbacks other → count_tagged tag rows ≡ 0
    → told_values Wide rows other ≡ told_values Wide rows tag
lacking_values tag other rows behind none = ap distinct_of (all_lacking tag other rows behind none)

-- ---- where some have it, and nothing stands in for it

lacks : Tag → List Row → Bool
lacks tag rows = list_any (λ (row : Row). not (has_tag tag row)) rows

some_lack : (tag : Tag) (rows : List Row) → count_tagged tag rows < length rows → lacks tag rows ≡ true
unfolding lacks
some_lack tag [] fewer = absurd (omega arith)
some_lack tag (x ∷ xs) fewer = by_cases (has_tag tag x) refl (some_lack tag xs)
  where
    by_cases : (b : Bool) → has_tag tag x ≡ b → (count_tagged tag xs < length xs → lacks tag xs ≡ true)
        → (not (has_tag tag x) || lacks tag xs) ≡ true
    by_cases true there others =
        let one : one_if tag x ≡ 1 = rw there refl in
        rw there (others (omega (arith, count_more tag x xs, one, fewer)))
    by_cases false lacking others = rw lacking refl

no_texts : (tags : List TagText) (tag : Tag) → first_text tags tag ≡ None → texts_of tags tag ≡ []
no_texts [] tag none = refl
no_texts (x ∷ tags) tag none = by_cases (is_tag x.tag tag) none (no_texts tags tag)
  where
    by_cases : (b : Bool)
        → option_map (λ (t : TagText). t.text) (cond b (Some x) (find (λ (t : TagText). is_tag t.tag tag) tags)) ≡ None
        → (first_text tags tag ≡ None → texts_of tags tag ≡ [])
        → map (λ (t : TagText). t.text) (cond b (x ∷ filter (λ (t : TagText). is_tag t.tag tag) tags)
        (filter (λ (t : TagText). is_tag t.tag tag) tags)) ≡ []
    by_cases true here rest = absurd (cc)
    by_cases false later rest = rest later

or_none : (a : Bool) → (a || false) ≡ a
or_none true = refl
or_none false = refl

abbrev is_empty : List ℕ → Bool
is_empty q = is_eq (texts q [])

one_has : (tag : Tag) (row : Row) (q : List ℕ)
    → has (or_empty Wide (own tag row)) q ≡ (has (own tag row) q || (not (has_tag tag row) && is_empty q))
one_has tag row q = by_cases (first_text row.tags tag) refl
  where
    by_cases : (text : Option (List ℕ)) → first_text row.tags tag ≡ text
        → has (or_empty Wide (own tag row)) q ≡ (has (own tag row) q || (not (is_some (first_text row.tags tag)) && is_empty q))
    by_cases None none = rw (texts_none row.tags tag none, no_texts row.tags tag none, none) (or_none (is_empty q))
    by_cases (Some text) some = rw (texts_some row.tags tag text some, some) (sym (or_none (has (own tag row) q)))

joined : (a l e r ls : Bool) → ((a || (l && e)) || (r || (ls && e))) ≡ ((a || r) || ((l || ls) && e))
joined true l e r ls = refl
joined false true true true ls = refl
joined false true true false ls = refl
joined false true false r true = refl
joined false true false r false = refl
joined false false e r ls = refl

all_has : (tag : Tag) (rows : List Row) (q : List ℕ) → has (flat_map (λ row. or_empty Wide (own tag row)) rows) q
    ≡ (has (flat_map (own tag) rows) q || (lacks tag rows && is_empty q))
unfolding lacks
all_has tag [] q = refl
all_has tag (x ∷ xs) q =
    let here = one_has tag x q in
    let rest = all_has tag xs q in
    list_any-append (λ t. is_eq (texts q t)) (or_empty Wide (own tag x)) (flat_map (λ row. or_empty Wide (own tag row)) xs)
    ∙ (λ i. here i || rest i)
    ∙ joined (has (own tag x) q) (not (has_tag tag x)) (is_empty q) (has (flat_map (own tag) xs) q) (lacks tag xs)
    ∙ ap (λ b. b || ((not (has_tag tag x) || lacks tag xs) && is_empty q))
    (sym (list_any-append (λ t. is_eq (texts q t)) (own tag x) (flat_map (own tag) xs)))

told_alone : (tag : Tag) (rows : List Row) → ((tags : List TagText) → told_tag tags tag ≡ tag)
    → flat_map (told_texts Wide tag) rows ≡ flat_map (λ row. or_empty Wide (own tag row)) rows
told_alone tag [] alone = refl
told_alone tag (x ∷ xs) alone =
    let here : told_texts Wide tag x ≡ or_empty Wide (own tag x) = ap (λ t. or_empty Wide (texts_of x.tags t)) (alone x.tags) in
    let rest = told_alone tag xs alone in
    (λ i. here i ++ rest i)

-- the empty value stands among the others
pub fewer_values : (tag : Tag) (rows : List Row) → ((tags : List TagText) → told_tag tags tag ≡ tag) → count_tagged tag rows < length rows
    → with_texts (values_of rows tag) ([] ∷ []) ≡ told_values Wide rows tag
fewer_values tag rows alone fewer =
    distinct_is (with_texts (values_of rows tag) ([] ∷ [])) (flat_map (told_texts Wide tag) rows)
    (with_texts_rising (values_of rows tag) ([] ∷ []) (with_texts_rising [] (flat_map (own tag) rows) none_rising)) same
  where
    turned : (e h : Bool) → ((e || false) || (h || false)) ≡ (h || e)
    turned true true = refl
    turned true false = refl
    turned false true = refl
    turned false false = refl

    told : (q : List ℕ) → has (flat_map (told_texts Wide tag) rows) q ≡ (has (flat_map (own tag) rows) q || is_empty q)
    told q =
        ap (λ ts. has ts q) (told_alone tag rows alone) ∙ all_has tag rows q
        ∙ ap (λ b. has (flat_map (own tag) rows) q || (b && is_empty q)) (some_lack tag rows fewer)

    same : (q : List ℕ) → has (with_texts (values_of rows tag) ([] ∷ [])) q ≡ has (flat_map (told_texts Wide tag) rows) q
    same q =
        has-with_texts (values_of rows tag) ([] ∷ []) q
        ∙ ap (λ b. (is_empty q || false) || b) (has-with_texts [] (flat_map (own tag) rows) q)
        ∙ turned (is_empty q) (has (flat_map (own tag) rows) q) ∙ sym (told q)
