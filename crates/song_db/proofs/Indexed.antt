-- The rows by the values of their tags, after a row has come or gone.
use Rattle.std.proofs.Common.{◌≡◌, ℕ, zero, suc, ◌+◌, ◌<◌, ◌≤◌, add-one, take, Bool, true, false, ◌&&◌, ◌||◌, cond, List, [], ◌∷◌, ◌++◌, length, filter, map}
use Rattle.std.proofs.Common.{Some, None, get_or, nat_lt, refl, sym, ap, ◌∙◌, arith}
use Rattle.std.specs.declared.cmp.Ordering.{Ordering}
use Rattle.std.specs.declared.cmp.Ordering.TheVariants.{Less, Equal, Greater}
use Rattle.std.specs.Cmp.Lexicographic.{nat_list_cmp_total}
use Rattle.std.specs.List.Sorted.{IsStrictlySortedBy}
use Rattle.std.specs.List.{find, list_any, position, position_or_len, slice_get}
use Rattle.std.specs.Ordering.{is_eq, match_ordering, ordering_reverse}
use Rattle.std.specs.Str.{bytes_eq}
use Rattle.std.proofs.lemmas.Bool.Decides.{nat_tests}
use Rattle.std.proofs.lemmas.Cmp.{tied_itself}
use Rattle.std.proofs.lemmas.List.Elements.{filter-append}
use Rattle.std.proofs.lemmas.List.Kept.{IsStrictlySortedBy-filter}
use Rattle.std.proofs.lemmas.List.Folds.{find-set, find_at}
use Rattle.std.proofs.lemmas.List.Sums.{passes_at_first}
use Rattle.std.proofs.lemmas.Map.Keys.{sorted_head, sorted_tail}
use Rattle.std.proofs.lemmas.Map.Text.{is_eq-slice_cmp}
use Rattle.std.proofs.Math.ListN.{set}
use Rattle.song_files.specs.Tag.{is_tag}
use Rattle.song_files.specs.Tags.{TagText}
use Rattle.song_files.specs.declared.tag.Tag.{Tag}
use Rattle.song_files.proofs.TagNumbers.{is_tag_refl, is_tag_same}
use Rattle.song_db.specs.declared.value_index.TagValues.{TagValues}
use Rattle.song_db.specs.Replaced.{by_text, IsRising, replaced}
use Rattle.song_db.specs.Row.{Row, row_at, row_uri}
use Rattle.song_db.specs.Valued.{has_text, has_value}
use Rattle.song_db.specs.ValueIndex.{Comes, IsIndex, IsReplacedAt, rows_at, values_at, values_under}
use Rattle.song_db.specs.ValueRows.{IsReplacedUnder, Values, rows_of}
use Rattle.song_db.proofs.Batches.{AreBehind, behind_equal, behind_trans, flip, rising_cons}
use Rattle.song_db.proofs.Rising.{texts, apart_less}
use Rattle.song_db.proofs.Turns.{none_behind}

-- ---- rows that pass a test, among which one comes or goes

filter_behind : (p : Row → Bool) (uri : List ℕ) (rows : List Row) → AreBehind row_uri uri rows → AreBehind row_uri uri (filter p rows)
filter_behind p uri [] behind = tt
filter_behind p uri (x ∷ xs) behind = by_cases (p x) (filter_behind p uri xs behind.1)
  where
    by_cases : (b : Bool) → AreBehind row_uri uri (filter p xs) → AreBehind row_uri uri (cond b (x ∷ filter p xs) (filter p xs))
    by_cases true rest = (behind.0, rest)
    by_cases false rest = rest

replaced_behind : (uri : List ℕ) (new rows : List Row) → AreBehind row_uri uri rows → replaced row_uri uri new rows ≡ new ++ rows
replaced_behind uri [] [] behind = refl
replaced_behind uri (n ∷ new) [] behind = ap (λ l. n ∷ l) (replaced_behind uri new [] behind)
replaced_behind uri new (x ∷ xs) behind = rw behind.0 refl

pub filter_replaced : (p : Row → Bool) (uri : List ℕ) (new rows : List Row) → IsRising row_uri rows
    → filter p (replaced row_uri uri new rows) ≡ replaced row_uri uri (filter p new) (filter p rows)
filter_replaced p uri new [] rising = refl
filter_replaced p uri new (x ∷ xs) rising =
    by_cases (texts uri x.uri) refl (p x) refl (filter_replaced p uri new xs (sorted_tail (by_text row_uri) x xs rising))
  where
    behind : AreBehind row_uri x.uri xs
    behind = sorted_head (by_text row_uri) x xs rising

    by_cases : (o : Ordering) → texts uri x.uri ≡ o → (b : Bool) → p x ≡ b
        → filter p (replaced row_uri uri new xs) ≡ replaced row_uri uri (filter p new) (filter p xs)
        → filter p (match_ordering o (new ++ x ∷ xs) (new ++ xs) (x ∷ replaced row_uri uri new xs))
        ≡ replaced row_uri uri (filter p new) (cond b (x ∷ filter p xs) (filter p xs))
    by_cases Less is true passes rest =
        let whole : filter p (x ∷ xs) ≡ x ∷ filter p xs = rw passes refl in
        filter-append p new (x ∷ xs) ∙ rw (whole, is) refl
    by_cases Less is false fails rest =
        let whole : filter p (x ∷ xs) ≡ filter p xs = rw fails refl in
        filter-append p new (x ∷ xs) ∙ rw whole (sym (replaced_behind uri (filter p new) (filter p xs)
        (filter_behind p uri xs (behind_trans row_uri uri x.uri xs is behind))))
    by_cases Equal is true passes rest = filter-append p new xs ∙ rw is refl
    by_cases Equal is false fails rest = filter-append p new xs ∙ sym (replaced_behind uri (filter p new) (filter p xs)
        (filter_behind p uri xs (behind_equal row_uri uri x.uri xs is behind)))
    by_cases Greater is true passes rest =
        let whole : filter p (x ∷ replaced row_uri uri new xs) ≡ x ∷ filter p (replaced row_uri uri new xs) = rw passes refl in
        whole ∙ rw is (ap (λ l. x ∷ l) rest)
    by_cases Greater is false fails rest =
        let whole : filter p (x ∷ replaced row_uri uri new xs) ≡ filter p (replaced row_uri uri new xs) = rw fails refl in
        whole ∙ rest

same_bytes : (uri : List ℕ) (x : Row) → texts uri x.uri ≡ Equal → bytes_eq uri x.uri ≡ true
same_bytes uri x is = sym (is_eq-slice_cmp uri x.uri) ∙ ap is_eq is

-- where none has the URI, none goes
pub none_replaced : (uri : List ℕ) (rows : List Row) → row_at rows uri ≡ None → replaced row_uri uri [] rows ≡ rows
none_replaced uri [] none = refl
none_replaced uri (x ∷ xs) none = by_cases (texts uri x.uri) refl (none_replaced uri xs)
  where
    by_cases : (o : Ordering) → texts uri x.uri ≡ o → (row_at xs uri ≡ None → replaced row_uri uri [] xs ≡ xs)
        → match_ordering o ([] ++ x ∷ xs) ([] ++ xs) (x ∷ replaced row_uri uri [] xs) ≡ x ∷ xs
    by_cases Less is rest = refl
    by_cases Equal is rest =
        let found = rw (same_bytes uri x is) at none in
        absurd (cc)
    by_cases Greater is rest =
        let later = rw (apart_less x.uri uri (flip uri x.uri is)) at none in
        ap (λ l. x ∷ l) (rest later)

-- a row in its own place
pub itself_replaced : (row : Row) (rows : List Row) → IsRising row_uri rows → row_at rows row.uri ≡ Some row
    → replaced row_uri row.uri (row ∷ []) rows ≡ rows
itself_replaced row [] rising found = absurd (cc)
itself_replaced row (x ∷ xs) rising found =
    by_cases (texts row.uri x.uri) refl (itself_replaced row xs (sorted_tail (by_text row_uri) x xs rising))
  where
    by_cases : (o : Ordering) → texts row.uri x.uri ≡ o
        → (row_at xs row.uri ≡ Some row → replaced row_uri row.uri (row ∷ []) xs ≡ xs)
        → match_ordering o (row ∷ x ∷ xs) (row ∷ xs) (x ∷ replaced row_uri row.uri (row ∷ []) xs) ≡ x ∷ xs
    by_cases Less is rest =
        let none : row_at (x ∷ xs) row.uri ≡ None = none_behind row.uri (x ∷ xs) (
          is,
          behind_trans row_uri row.uri x.uri xs is
              (sorted_head (by_text row_uri) x xs rising),
        ) in
        absurd (cc)
    by_cases Equal is rest =
        let here : Some x ≡ Some row = rw (same_bytes row.uri x is) at found in
        let same : x ≡ row = cc in
        ap (λ r. r ∷ xs) (sym same)
    by_cases Greater is rest =
        let later = rw (apart_less x.uri row.uri (flip row.uri x.uri is)) at found in
        ap (λ l. x ∷ l) (rest later)

-- a row that goes, and fails a test
gone_filter : (p : Row → Bool) (row : Row) (rows : List Row) → row_at rows row.uri ≡ Some row → p row ≡ false
    → filter p (replaced row_uri row.uri [] rows) ≡ filter p rows
gone_filter p row [] found fails = absurd (cc)
gone_filter p row (x ∷ xs) found fails = by_cases (texts row.uri x.uri) refl (λ later. gone_filter p row xs later fails)
  where
    by_cases : (o : Ordering) → texts row.uri x.uri ≡ o
        → (row_at xs row.uri ≡ Some row → filter p (replaced row_uri row.uri [] xs) ≡ filter p xs)
        → filter p (match_ordering o ([] ++ x ∷ xs) ([] ++ xs) (x ∷ replaced row_uri row.uri [] xs)) ≡ filter p (x ∷ xs)
    by_cases Less is rest = refl
    by_cases Equal is rest =
        let here : Some x ≡ Some row = rw (same_bytes row.uri x is) at found in
        let same : x ≡ row = cc in
        let not_it : p x ≡ false = ap p same ∙ fails in
        let whole : filter p (x ∷ xs) ≡ filter p xs = rw not_it refl in
        sym whole
    by_cases Greater is rest =
        let later = rw (apart_less x.uri row.uri (flip row.uri x.uri is)) at found in
        ap (λ l. cond (p x) (x ∷ l) l) (rest later)

-- ---- the same twice

row_again : (row : Row) (rows : List Row) → replaced row_uri row.uri (row ∷ []) (replaced row_uri row.uri (row ∷ []) rows)
    ≡ replaced row_uri row.uri (row ∷ []) rows
row_again row [] = rw (tied_itself nat_list_cmp_total row.uri) refl
row_again row (x ∷ xs) = by_cases (texts row.uri x.uri) refl (row_again row xs)
  where
    by_cases : (o : Ordering) → texts row.uri x.uri ≡ o
        → replaced row_uri row.uri (row ∷ []) (replaced row_uri row.uri (row ∷ []) xs) ≡ replaced row_uri row.uri (row ∷ []) xs
        → replaced row_uri row.uri (row ∷ []) (match_ordering o (row ∷ x ∷ xs) (row ∷ xs) (x ∷ replaced row_uri row.uri (row ∷ []) xs))
        ≡ match_ordering o (row ∷ x ∷ xs) (row ∷ xs) (x ∷ replaced row_uri row.uri (row ∷ []) xs)
    by_cases Less is rest = rw (tied_itself nat_list_cmp_total row.uri) refl
    by_cases Equal is rest = rw (tied_itself nat_list_cmp_total row.uri) refl
    by_cases Greater is rest = rw is (ap (λ l. x ∷ l) rest)

pub none_left : (uri : List ℕ) (rows : List Row) → IsRising row_uri rows → row_at (replaced row_uri uri [] rows) uri ≡ None
none_left uri [] rising = refl
none_left uri (x ∷ xs) rising = by_cases (texts uri x.uri) refl (none_left uri xs (sorted_tail (by_text row_uri) x xs rising))
  where
    behind : AreBehind row_uri x.uri xs
    behind = sorted_head (by_text row_uri) x xs rising

    by_cases : (o : Ordering) → texts uri x.uri ≡ o → row_at (replaced row_uri uri [] xs) uri ≡ None
        → row_at (match_ordering o ([] ++ x ∷ xs) ([] ++ xs) (x ∷ replaced row_uri uri [] xs)) uri ≡ None
    by_cases Less is rest = none_behind uri (x ∷ xs) (is, behind_trans row_uri uri x.uri xs is behind)
    by_cases Equal is rest = none_behind uri xs (behind_equal row_uri uri x.uri xs is behind)
    by_cases Greater is rest = rw (apart_less x.uri uri (flip uri x.uri is)) rest

-- a row that goes, and another that comes under its URI
pub again_replaced : (row : Row) (rows : List Row) → IsRising row_uri rows
    → replaced row_uri row.uri (row ∷ []) (replaced row_uri row.uri [] rows) ≡ replaced row_uri row.uri (row ∷ []) rows
again_replaced row [] rising = refl
again_replaced row (x ∷ xs) rising =
    by_cases (texts row.uri x.uri) refl (again_replaced row xs (sorted_tail (by_text row_uri) x xs rising))
  where
    behind : AreBehind row_uri x.uri xs
    behind = sorted_head (by_text row_uri) x xs rising

    by_cases : (o : Ordering) → texts row.uri x.uri ≡ o
        → replaced row_uri row.uri (row ∷ []) (replaced row_uri row.uri [] xs) ≡ replaced row_uri row.uri (row ∷ []) xs
        → replaced row_uri row.uri (row ∷ []) (match_ordering o ([] ++ x ∷ xs) ([] ++ xs) (x ∷ replaced row_uri row.uri [] xs))
        ≡ match_ordering o (row ∷ x ∷ xs) (row ∷ xs) (x ∷ replaced row_uri row.uri (row ∷ []) xs)
    by_cases Less is rest = rw is refl
    by_cases Equal is rest = replaced_behind row.uri (row ∷ []) xs (behind_equal row_uri row.uri x.uri xs is behind)
    by_cases Greater is rest = rw is (ap (λ l. x ∷ l) rest)

-- a row that has come or gone under a URI comes or goes once
pub record IsOnce (uri : List ℕ) (new : List Row) : Type 0 where
  pub again : (rows : List Row) → IsRising row_uri rows → replaced row_uri uri new (replaced row_uri uri new rows) ≡ replaced row_uri uri new rows

pub comes_once : (row : Row) → IsOnce row.uri (row ∷ [])
comes_once row = record { again = λ rows rising. row_again row rows }

pub goes_once : (uri : List ℕ) → IsOnce uri []
goes_once uri = record { again = λ rows rising. none_replaced uri (replaced row_uri uri [] rows) (none_left uri rows rising) }

-- ---- the texts of a row, one after the other

-- what is done under the first texts of a row
pub record IsPartly (tags : List TagText) (uri : List ℕ) (new rows : List Row) (index : List TagValues) : Type 0 where
  pub each : (tag : Tag) (value : List ℕ) → rows_at index tag value ≡ cond (has_text tags tag value)
      (replaced row_uri uri new (filter (has_value tag value) rows)) (filter (has_value tag value) rows)

pub none_done : (uri : List ℕ) (new rows : List Row) (index : List TagValues) → IsIndex rows index → IsPartly [] uri new rows index
none_done uri new rows index is = record { each = is.exact }

or_none : (a : Bool) → (a || false) ≡ a
or_none true = refl
or_none false = refl

or_grouped : (a b c : Bool) → (a || (b || c)) ≡ ((a || b) || c)
or_grouped true b c = refl
or_grouped false b c = refl

text-last : (tags : List TagText) (t : TagText) (tag : Tag) (value : List ℕ)
    → has_text (tags ++ t ∷ []) tag value ≡ (has_text tags tag value || (is_tag t.tag tag && bytes_eq t.text value))
text-last [] t tag value = by_cases (is_tag t.tag tag) (bytes_eq t.text value)
  where
    by_cases : (a b : Bool) → list_any (λ text. bytes_eq text value) (map (λ (t : TagText). t.text) (cond a (t ∷ []) []))
        ≡ (a && bytes_eq t.text value)
    by_cases true b = or_none (bytes_eq t.text value)
    by_cases false b = refl
text-last (x ∷ xs) t tag value = by_cases (is_tag x.tag tag) (text-last xs t tag value)
  where
    by_cases : (a : Bool) → has_text (xs ++ t ∷ []) tag value ≡ (has_text xs tag value || (is_tag t.tag tag && bytes_eq t.text value))
        → list_any (λ text. bytes_eq text value) (map (λ (t : TagText). t.text) (cond a (x ∷ filter (λ (t : TagText). is_tag t.tag tag)
        (xs ++ t ∷ [])) (filter (λ (t : TagText). is_tag t.tag tag) (xs ++ t ∷ []))))
        ≡ (list_any (λ text. bytes_eq text value) (map (λ (t : TagText). t.text) (cond a (x ∷ filter (λ (t : TagText). is_tag t.tag tag)
        xs) (filter (λ (t : TagText). is_tag t.tag tag) xs))) || (is_tag t.tag tag && bytes_eq t.text value))
    by_cases true rest = ap (λ b. bytes_eq x.text value || b) rest ∙ or_grouped (bytes_eq x.text value) (has_text xs tag value)
        (is_tag t.tag tag && bytes_eq t.text value)
    by_cases false rest = rest

pub partly_more : (tags : List TagText) (t : TagText) (uri : List ℕ) (new rows : List Row) (before after : List TagValues)
    → IsRising row_uri rows → ((p : Row → Bool) → IsRising row_uri (filter p rows)) → IsOnce uri new
    → IsPartly tags uri new rows before → IsReplacedAt t.tag t.text uri new before after → IsPartly (tags ++ t ∷ []) uri new rows after
partly_more tags t uri new rows before after rising rise once one two = record { each = each }
  where
    each : (tag : Tag) (value : List ℕ) → rows_at after tag value ≡ cond (has_text (tags ++ t ∷ []) tag value)
        (replaced row_uri uri new (filter (has_value tag value) rows)) (filter (has_value tag value) rows)
    each tag value = two tag value ∙ rw (text-last tags t tag value)
        (by_cases (has_text tags tag value) (is_tag t.tag tag && bytes_eq t.text value) (one.each tag value))
      where
        old : List Row
        old = filter (has_value tag value) rows

        by_cases : (a b : Bool) → rows_at before tag value ≡ cond a (replaced row_uri uri new old) old
            → cond b (replaced row_uri uri new (rows_at before tag value)) (rows_at before tag value)
            ≡ cond (a || b) (replaced row_uri uri new old) old
        by_cases true true is = ap (replaced row_uri uri new) is ∙ once.again old (rise (has_value tag value))
        by_cases true false is = is
        by_cases false true is = ap (replaced row_uri uri new) is
        by_cases false false is = is

-- the whole row has come
pub has_come : (row : Row) (rows : List Row) (index : List TagValues) → IsRising row_uri rows → row_at rows row.uri ≡ None
    → IsPartly row.tags row.uri (row ∷ []) rows index → IsIndex (replaced row_uri row.uri (row ∷ []) rows) index
has_come row rows index rising none partly = record { exact = exact }
  where
    exact : (tag : Tag) (value : List ℕ) → rows_at index tag value ≡ filter (has_value tag value) (replaced row_uri row.uri (row ∷ []) rows)
    exact tag value = partly.each tag value ∙ sym (filter_replaced (has_value tag value) row.uri (row ∷ []) rows rising
        ∙ by_cases (has_value tag value row))
      where
        old : List Row
        old = filter (has_value tag value) rows

        by_cases : (b : Bool) → replaced row_uri row.uri (cond b (row ∷ []) []) old ≡ cond b (replaced row_uri row.uri (row ∷ []) old) old
        by_cases true = refl
        by_cases false = sym (filter_replaced (has_value tag value) row.uri [] rows rising)
            ∙ ap (filter (has_value tag value)) (none_replaced row.uri rows none)

-- the whole row has gone
pub has_gone : (row : Row) (rows : List Row) (index : List TagValues) → IsRising row_uri rows → row_at rows row.uri ≡ Some row
    → IsPartly row.tags row.uri [] rows index → IsIndex (replaced row_uri row.uri [] rows) index
has_gone row rows index rising found partly = record { exact = exact }
  where
    exact : (tag : Tag) (value : List ℕ) → rows_at index tag value ≡ filter (has_value tag value) (replaced row_uri row.uri [] rows)
    exact tag value = partly.each tag value ∙ by_cases (has_value tag value row) refl
      where
        old : List Row
        old = filter (has_value tag value) rows

        by_cases : (b : Bool) → has_value tag value row ≡ b
            → cond b (replaced row_uri row.uri [] old) old ≡ filter (has_value tag value) (replaced row_uri row.uri [] rows)
        by_cases true passes = sym (filter_replaced (has_value tag value) row.uri [] rows rising)
        by_cases false fails = sym (gone_filter (has_value tag value) row rows found fails)

-- ---- the values of one tag among those of all

abbrev pub is_of : Tag → TagValues → Bool
is_of tag one = is_tag one.tag tag

pub record IsFirstOf (tag : Tag) (index : List TagValues) (at : ℕ) : Type 0 where
  pub is : at ≡ position_or_len (is_of tag) index
  pub within : at < length index

pub first_of : (tag : Tag) (index : List TagValues) (at : ℕ) → Some at ≡ position (is_of tag) index → IsFirstOf tag index at
first_of tag index at found = by_cases (nat_lt (position_or_len (is_of tag) index) (length index)) refl found
  where
    by_cases : (b : Bool) → nat_lt (position_or_len (is_of tag) index) (length index) ≡ b
        → Some at ≡ cond b (Some (position_or_len (is_of tag) index)) None → IsFirstOf tag index at
    by_cases true within here =
        let same : at ≡ position_or_len (is_of tag) index = cc in
        record { is = same; within = grind (arith, nat_tests) }
    by_cases false past none = absurd (cc)

slice_get_here : {X : Type 0} (xs : List X) (i : ℕ) (d : X) → i < length xs → slice_get xs i ≡ Some (get_or xs i d)
slice_get_here [] i d within = absurd (omega arith)
slice_get_here (x ∷ xs) zero d within = refl
slice_get_here (x ∷ xs) (suc i) d within = slice_get_here xs i d (omega arith)

slice_get_past : {X : Type 0} (xs : List X) (i : ℕ) → length xs ≤ i → slice_get xs i ≡ None
slice_get_past [] i past = refl
slice_get_past (x ∷ xs) zero past = absurd (omega arith)
slice_get_past (x ∷ xs) (suc i) past = slice_get_past xs i (omega arith)

-- the values of the tag stand there
pub values_here : (tag : Tag) (index : List TagValues) (at : ℕ) (one : TagValues) → IsFirstOf tag index at → one ≡ get_or index at one
    → one.values ≡ values_under index tag
values_here tag index at one first is =
    let found : find (is_of tag) index ≡ Some one = find_at (is_of tag) index ∙ ap (slice_get index) (sym first.is)
    ∙ slice_get_here index at one first.within ∙ ap Some (sym is) in
    ap values_at (sym found)

pub no_values : (tag : Tag) (index : List TagValues) → None ≡ position (is_of tag) index → find (is_of tag) index ≡ None
no_values tag index none = by_cases (nat_lt (position_or_len (is_of tag) index) (length index)) refl none
  where
    by_cases : (b : Bool) → nat_lt (position_or_len (is_of tag) index) (length index) ≡ b
        → None ≡ cond b (Some (position_or_len (is_of tag) index)) None → find (is_of tag) index ≡ None
    by_cases true within here = absurd (cc)
    by_cases false past refused = find_at (is_of tag) index
        ∙ slice_get_past index (position_or_len (is_of tag) index) (grind (arith, nat_tests))

own_tag : (tag : Tag) (index : List TagValues) (at : ℕ) (one : TagValues) → IsFirstOf tag index at → one ≡ get_or index at one
    → is_tag one.tag tag ≡ true
own_tag tag index at one first is =
    let within : position_or_len (is_of tag) index < length index = omega (arith, first.is, first.within) in
    ap (is_of tag) (is ∙ ap (λ i. get_or index i one) first.is) ∙ passes_at_first (is_of tag) index one within

find_other : (p : TagValues → Bool) (index : List TagValues) (at : ℕ) (y : TagValues) → p y ≡ false
    → ((d : TagValues) → at < length index → p (get_or index at d) ≡ false) → find p (set index at y) ≡ find p index
find_other p [] at y not_y not_it = refl
find_other p (x ∷ xs) zero y not_y not_it =
    let not_x : p x ≡ false = not_it x (omega arith) in
    rw (not_y, not_x) refl
find_other p (x ∷ xs) (suc at) y not_y not_it =
    ap (λ o. cond (p x) (Some x) o) (find_other p xs at y not_y (λ d below. not_it d (omega arith)))

get_or_same : (index : List TagValues) (at : ℕ) (d e : TagValues) → at < length index → get_or index at d ≡ get_or index at e
get_or_same [] at d e within = absurd (omega arith)
get_or_same (x ∷ xs) zero d e within = refl
get_or_same (x ∷ xs) (suc at) d e within = get_or_same xs at d e (omega arith)

-- new values in the place of those of the tag
values_set : (tag : Tag) (index : List TagValues) (at : ℕ) (one : TagValues) (values : Values) → IsFirstOf tag index at
    → one ≡ get_or index at one → (other : Tag)
    → values_under (set index at (record { tag = one.tag; values = values })) other ≡ cond (is_tag tag other) values (values_under index other)
values_set tag index at one values first is other = by_cases (is_tag tag other) refl
  where
    own : is_tag one.tag tag ≡ true
    own = own_tag tag index at one first is

    by_cases : (b : Bool) → is_tag tag other ≡ b → values_under (set index at (record { tag = one.tag; values = values })) other
        ≡ cond b values (values_under index other)
    by_cases true same =
        let it : tag ≡ other = is_tag_same tag other same in
        rw (← it) (ap values_at (find-set (is_of tag) index at (record { tag = one.tag; values = values }) first.is first.within own))
    by_cases false apart =
        let it : one.tag ≡ tag = is_tag_same one.tag tag own in
        let not_it : is_tag one.tag other ≡ false = ap (λ t. is_tag t other) it ∙ apart in
        ap values_at (find_other (is_of other) index at (record { tag = one.tag; values = values }) not_it
        (λ d below. ap (is_of other) (get_or_same index at d one below ∙ sym is) ∙ not_it))

replaced_values : (tag : Tag) (value uri : List ℕ) (new : List Row) (before after : List TagValues) (old values : Values)
    → old ≡ values_under before tag
    → ((other : Tag) → values_under after other ≡ cond (is_tag tag other) values (values_under before other))
    → IsReplacedUnder value uri new old values → IsReplacedAt tag value uri new before after
replaced_values tag value uri new before after old values is each under other text =
    ap (λ l. rows_of l text) (each other) ∙ by_cases (is_tag tag other) refl
  where
    by_cases : (b : Bool) → is_tag tag other ≡ b → rows_of (cond b values (values_under before other)) text
        ≡ cond (b && bytes_eq value text) (replaced row_uri uri new (rows_of (values_under before other) text)) (rows_of
        (values_under before other) text)
    by_cases true same =
        let it : values_under before other ≡ old = ap (values_under before) (sym (is_tag_same tag other same)) ∙ sym is in
        rw it (under text)
    by_cases false apart = refl

pub set_replaced_at : (tag : Tag) (value uri : List ℕ) (new : List Row) (index : List TagValues) (at : ℕ) (one : TagValues)
    (values : Values) → Some at ≡ position (is_of tag) index → one ≡ get_or index at one
    → IsReplacedUnder value uri new one.values values
    → IsReplacedAt tag value uri new index (set index at (record { tag = one.tag; values = values }))
set_replaced_at tag value uri new index at one values found is under =
    let first : IsFirstOf tag index at = first_of tag index at found in
    replaced_values tag value uri new index (set index at (record { tag = one.tag; values = values })) one.values values
    (values_here tag index at one first is) (values_set tag index at one values first is) under

find_last : (p : TagValues → Bool) (index : List TagValues) (y : TagValues) → find p index ≡ None
    → find p (index ++ y ∷ []) ≡ cond (p y) (Some y) None
find_last p [] y none = refl
find_last p (x ∷ xs) y none = by_cases (p x) none (find_last p xs y)
  where
    by_cases : (b : Bool) → cond b (Some x) (find p xs) ≡ None → (find p xs ≡ None → find p (xs ++ y ∷ []) ≡ cond (p y) (Some y) None)
        → cond b (Some x) (find p (xs ++ y ∷ [])) ≡ cond (p y) (Some y) None
    by_cases true here rest = absurd (cc)
    by_cases false later rest = rest later

find_before : (p : TagValues → Bool) (index : List TagValues) (y : TagValues) → p y ≡ false → find p (index ++ y ∷ []) ≡ find p index
find_before p [] y not_y = rw not_y refl
find_before p (x ∷ xs) y not_y = ap (λ o. cond (p x) (Some x) o) (find_before p xs y not_y)

-- a tag that wasn't there, with its values
pub push_replaced_at : (tag : Tag) (value uri : List ℕ) (new : List Row) (index : List TagValues) (values : Values)
    → None ≡ position (is_of tag) index → IsReplacedUnder value uri new [] values
    → IsReplacedAt tag value uri new index (index ++ record { tag = tag; values = values } ∷ [])
push_replaced_at tag value uri new index values none under =
    replaced_values tag value uri new index (index ++ record { tag = tag; values = values } ∷ []) [] values
    (sym (ap values_at absent)) each under
  where
    absent : find (is_of tag) index ≡ None
    absent = no_values tag index none

    each : (other : Tag) → values_under (index ++ record { tag = tag; values = values } ∷ []) other
        ≡ cond (is_tag tag other) values (values_under index other)
    each other = by_cases (is_tag tag other) refl
      where
        by_cases : (b : Bool) → is_tag tag other ≡ b → values_under (index ++ record { tag = tag; values = values } ∷ []) other
            ≡ cond b values (values_under index other)
        by_cases true same =
            let it : tag ≡ other = is_tag_same tag other same in
            let last : TagValues = record { tag = tag; values = values } in
            let yes : cond (is_of tag last) (Some last) None ≡ Some last = rw (is_tag_refl tag) refl in
            rw (← it) (ap values_at (find_last (is_of tag) index last absent ∙ yes))
        by_cases false apart = ap values_at (find_before (is_of other) index (record { tag = tag; values = values }) apart)

-- nothing is taken from a tag that isn't there
pub none_replaced_at : (tag : Tag) (value uri : List ℕ) (index : List TagValues) → None ≡ position (is_of tag) index
    → IsReplacedAt tag value uri [] index index
none_replaced_at tag value uri index none other text = by_cases (is_tag tag other) refl (bytes_eq value text)
  where
    by_cases : (a : Bool) → is_tag tag other ≡ a → (b : Bool) → rows_at index other text
        ≡ cond (a && b) (replaced row_uri uri [] (rows_at index other text)) (rows_at index other text)
    by_cases true same true =
        let it : tag ≡ other = is_tag_same tag other same in
        let empty : rows_at index other text ≡ [] = rw (← it) (ap (λ o. rows_of (values_at o) text) (no_values tag index none)) in
        rw empty refl
    by_cases true same false = refl
    by_cases false apart b = refl

-- ---- a loop over the texts of a row

take_next : (tags : List TagText) (at : ℕ) (t : TagText) → slice_get tags at ≡ Some t → take (suc at) tags ≡ take at tags ++ t ∷ []
take_next [] at t here = absurd (cc)
take_next (x ∷ xs) zero t here =
    let same : x ≡ t = cc in
    ap (λ y. y ∷ []) same
take_next (x ∷ xs) (suc at) t here = ap (λ l. x ∷ l) (take_next xs at t here)

take_whole : (tags : List TagText) (n : ℕ) → length tags ≤ n → take n tags ≡ tags
take_whole [] zero past = refl
take_whole [] (suc n) past = refl
take_whole (x ∷ xs) zero past = absurd (omega arith)
take_whole (x ∷ xs) (suc n) past = ap (λ l. x ∷ l) (take_whole xs n (omega arith))

pub partly_first : (tags : List TagText) (uri : List ℕ) (new rows : List Row) (index : List TagValues) → IsIndex rows index
    → IsPartly (take 0 tags) uri new rows index
partly_first [] uri new rows index is = none_done uri new rows index is
partly_first (x ∷ xs) uri new rows index is = none_done uri new rows index is

pub partly_next : (tags : List TagText) (at : ℕ) (t : TagText) (uri : List ℕ) (new rows : List Row) (before after : List TagValues)
    → slice_get tags at ≡ Some t → IsRising row_uri rows → IsOnce uri new → IsPartly (take at tags) uri new rows before
    → IsReplacedAt t.tag t.text uri new before after → IsPartly (take (at + 1) tags) uri new rows after
partly_next tags at t uri new rows before after here rising once one two =
    let more : take (at + 1) tags ≡ take at tags ++ t ∷ [] = rw add-one (take_next tags at t here) in
    rw more (partly_more (take at tags) t uri new rows before after rising
    (λ p. IsStrictlySortedBy-filter (by_text row_uri) p rows rising) once one two)

pub partly_last : (tags : List TagText) (n : ℕ) (uri : List ℕ) (new rows : List Row) (index : List TagValues) → length tags ≤ n
    → IsPartly (take n tags) uri new rows index → IsPartly tags uri new rows index
partly_last tags n uri new rows index past partly = rw (take_whole tags n past) at partly

-- ---- an index that is made row after row

behind_at : (key : List ℕ) (rows : List Row) (i : ℕ) (row : Row) → AreBehind row_uri key rows → i < length rows
    → row ≡ get_or rows i row → texts key row.uri ≡ Less
behind_at key [] i row behind within is = absurd (omega arith)
behind_at key (x ∷ xs) zero row behind within is = ap (λ (r : Row). texts key r.uri) is ∙ behind.0
behind_at key (x ∷ xs) (suc i) row behind within is = behind_at key xs i row behind.1 (omega arith) is

take_behind : (key : List ℕ) (rows : List Row) (i : ℕ) → AreBehind row_uri key rows → AreBehind row_uri key (take i rows)
take_behind key [] zero behind = tt
take_behind key [] (suc i) behind = tt
take_behind key (x ∷ xs) zero behind = tt
take_behind key (x ∷ xs) (suc i) behind = (behind.0, take_behind key xs i behind.1)

pub nothing_rises : IsRising row_uri []
unfolding IsStrictlySortedBy
nothing_rises = tt

pub front_rises : (rows : List Row) (i : ℕ) → IsRising row_uri rows → IsRising row_uri (take i rows)
front_rises [] zero rising = nothing_rises
front_rises [] (suc i) rising = nothing_rises
front_rises (x ∷ xs) zero rising = nothing_rises
front_rises (x ∷ xs) (suc i) rising = rising_cons row_uri x (take i xs) (take_behind x.uri xs i (sorted_head (by_text row_uri) x xs rising))
    (front_rises xs i (sorted_tail (by_text row_uri) x xs rising))

pub none_in_front : (rows : List Row) (i : ℕ) (row : Row) → IsRising row_uri rows → i < length rows → row ≡ get_or rows i row
    → row_at (take i rows) row.uri ≡ None
none_in_front [] i row rising within is = absurd (omega arith)
none_in_front (x ∷ xs) zero row rising within is = refl
none_in_front (x ∷ xs) (suc i) row rising within is =
    let less : texts x.uri row.uri ≡ Less = behind_at x.uri xs i row (sorted_head (by_text row_uri) x xs rising) (omega arith) is in
    rw (apart_less x.uri row.uri less) (none_in_front xs i row (sorted_tail (by_text row_uri) x xs rising) (omega arith) is)

front_more : (rows : List Row) (i : ℕ) (row : Row) → IsRising row_uri rows → i < length rows → row ≡ get_or rows i row
    → replaced row_uri row.uri (row ∷ []) (take i rows) ≡ take (suc i) rows
front_more [] i row rising within is = absurd (omega arith)
front_more (x ∷ xs) zero row rising within is = ap (λ r. r ∷ []) is
front_more (x ∷ xs) (suc i) row rising within is =
    let less : texts x.uri row.uri ≡ Less = behind_at x.uri xs i row (sorted_head (by_text row_uri) x xs rising) (omega arith) is in
    let passed : texts row.uri x.uri ≡ Greater = nat_list_cmp_total.antisymm row.uri x.uri ∙ ap ordering_reverse less in
    rw passed (ap (λ l. x ∷ l) (front_more xs i row (sorted_tail (by_text row_uri) x xs rising) (omega arith) is))

pub made_more : (rows : List Row) (i : ℕ) (row : Row) (before after : List TagValues) → IsRising row_uri rows → i < length rows
    → row ≡ get_or rows i row → Comes row before after → IsIndex (take i rows) before → IsIndex (take (i + 1) rows) after
made_more rows i row before after rising within is comes made =
    let more : take (i + 1) rows ≡ replaced row_uri row.uri (row ∷ []) (take i rows)
    = rw add-one (sym (front_more rows i row rising within is)) in
    rw more (comes (take i rows) (front_rises rows i rising) (none_in_front rows i row rising within is) made)
