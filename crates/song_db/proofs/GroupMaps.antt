-- A map from values to rows: what its changes are, seen by the bytes of the values.
use Rattle.std.proofs.Common.{◌≡◌, ℕ, zero, suc, ◌<◌, Bool, true, false, cond, List, [], ◌∷◌, ◌++◌, length, Option, Some, None, BTreeMap, string_bytes}
use Rattle.std.proofs.Common.{Result, Ok, Err, OnOk, OnErr, refl, sym, ap, ◌∙◌, arith, unwrap_or, map}
use denote.Ref.{Bor}
use Rattle.std.specs.declared.alloc.Global.{Global}
use Rattle.std.specs.declared.cmp.Ordering.{Ordering}
use Rattle.std.specs.declared.cmp.Ordering.TheVariants.{Less, Equal, Greater}
use Rattle.std.specs.declared.string.String.{String}
use Rattle.std.specs.declared.vec.Vec.{Vec}
use Rattle.std.specs.BTreeMap.{UpdatesBy, get_by_text, is_at}
use Rattle.std.specs.Cmp.Lexicographic.{slice_cmp}
use Rattle.std.specs.List.{All, AllByRecursion}
use Rattle.std.specs.List.Sorted.{IsStrictlySortedBy}
use Rattle.std.specs.Map.{keys_of, lookup, remove_entry, set_value, values_of}
use Rattle.std.specs.Ordering.{nat_cmp, match_ordering}
use Rattle.std.specs.Str.{bytes_eq}
use Rattle.std.specs.String.{string_cmp}
use Rattle.std.proofs.lemmas.Map.Text.{btree_map_updates_text, is_eq-slice_cmp, text_cmp}
use Rattle.std.proofs.lemmas.Map.Views.{All-map-remove_entry}
use Rattle.std.proofs.lemmas.Slice.Eq.{bytes_eq-Decides}
use Rattle.song_db.specs.Replaced.{IsRising, replaced}
use Rattle.song_db.specs.Row.{Row, row_uri}
use Rattle.song_db.specs.ValueRows.{Values, AreGroups, IsGroup, IsReplacedUnder, by_value, rows_of}
use Rattle.song_db.proofs.Batches.{rising_replaced}
use Rattle.song_db.proofs.Rising.{texts}

abbrev Entries : Type 0
Entries = List (String Global × Vec Row Global)

abbrev items_or : Option (Vec Row Global) → List Row
items_or None = []
items_or (Some rows) = rows.items

-- the rows under a value are those that a look-up finds
found_items : (q : List ℕ) (es : Entries) → rows_of (by_value es) q ≡ items_or (lookup (is_at (text_cmp q)) es)
found_items q [] = refl
found_items q (e ∷ es) = rw (is_eq-slice_cmp q (string_bytes e.0)) (by_cases (bytes_eq q (string_bytes e.0)) (found_items q es))
  where
    by_cases : (b : Bool) → rows_of (by_value es) q ≡ items_or (lookup (is_at (text_cmp q)) es)
        → unwrap_or (cond b (Some e.1.items) (lookup (bytes_eq q) (by_value es))) [] ≡ items_or (cond b (Some e.1) (lookup (is_at (text_cmp q)) es))
    by_cases true rest = refl
    by_cases false rest = rest

pub found_rows : (q : List ℕ) (es : Entries) (rows : Vec Row Global) → Some rows ≡ lookup (is_at (text_cmp q)) es
    → rows.items ≡ rows_of (by_value es) q
found_rows q es rows found = ap items_or found ∙ sym (found_items q es)

pub no_rows : (q : List ℕ) (es : Entries) → None ≡ lookup (is_at (text_cmp q)) es → [] ≡ rows_of (by_value es) q
no_rows q es none = ap items_or none ∙ sym (found_items q es)

-- after a change at one value
pub updated : (m n : BTreeMap (String Global) (Vec Row Global)) (q : List ℕ) (w : Option (Vec Row Global)) (rows : List Row)
    → UpdatesBy string_cmp (λ k. slice_cmp nat_cmp q (string_bytes k)) m n w → items_or w ≡ rows → (text : List ℕ)
    → rows_of (by_value n.entries) text ≡ cond (bytes_eq q text) rows (rows_of (by_value m.entries) text)
updated m n q w rows updates is text =
    found_items text n.entries ∙ ap items_or (btree_map_updates_text q m n w updates text)
    ∙ by_cases (bytes_eq q text) ∙ ap (λ l. cond (bytes_eq q text) rows l) (sym (found_items text m.entries))
  where
    by_cases : (b : Bool) → items_or (cond b w (get_by_text m text)) ≡ cond b rows (items_or (get_by_text m text))
    by_cases true = is
    by_cases false = refl

-- twice at the same value
pub updated_again : (q : List ℕ) (first then : List Row) (before between after : Values)
    → ((text : List ℕ) → rows_of between text ≡ cond (bytes_eq q text) first (rows_of before text))
    → ((text : List ℕ) → rows_of after text ≡ cond (bytes_eq q text) then (rows_of between text))
    → (text : List ℕ) → rows_of after text ≡ cond (bytes_eq q text) then (rows_of before text)
updated_again q first then before between after one two text = two text ∙ by_cases (bytes_eq q text) (one text)
  where
    by_cases : (b : Bool) → rows_of between text ≡ cond b first (rows_of before text)
        → cond b then (rows_of between text) ≡ cond b then (rows_of before text)
    by_cases true is = refl
    by_cases false is = is

pub replaced_under : (q uri : List ℕ) (new old rows : List Row) (before after : Values)
    → ((text : List ℕ) → rows_of after text ≡ cond (bytes_eq q text) rows (rows_of before text))
    → old ≡ rows_of before q → rows ≡ replaced row_uri uri new old → IsReplacedUnder q uri new before after
replaced_under q uri new old rows before after at is changed text = at text ∙ by_cases (bytes_eq q text) refl
  where
    by_cases : (b : Bool) → bytes_eq q text ≡ b → cond b rows (rows_of before text)
        ≡ cond b (replaced row_uri uri new (rows_of before text)) (rows_of before text)
    by_cases true same = changed ∙ ap (replaced row_uri uri new) (is ∙ ap (rows_of before) ((bytes_eq-Decides q text).0 same))
    by_cases false other = refl

-- where there is no row under a value, none is taken from it
pub none_taken : (q uri : List ℕ) (values : Values) → [] ≡ rows_of values q → IsReplacedUnder q uri [] values values
none_taken q uri values none text = by_cases (bytes_eq q text) refl
  where
    by_cases : (b : Bool) → bytes_eq q text ≡ b
        → rows_of values text ≡ cond b (replaced row_uri uri [] (rows_of values text)) (rows_of values text)
    by_cases true same =
        let here : rows_of values text ≡ [] = ap (rows_of values) (sym ((bytes_eq-Decides q text).0 same)) ∙ sym none in
        rw here refl
    by_cases false other = refl

-- ---- the order of the values, and that each has rows

all_behind : (k : String Global) (es : Entries) → AllByRecursion (λ q. string_cmp k q ≡ Less) (keys_of es)
    → AllByRecursion (λ q. slice_cmp nat_cmp (string_bytes k) q ≡ Less) (keys_of (by_value es))
all_behind k [] all = tt
all_behind k (e ∷ es) all = (all.0, all_behind k es all.1)

pub values_rise : (es : Entries) → IsStrictlySortedBy string_cmp (keys_of es)
    → IsStrictlySortedBy (slice_cmp nat_cmp) (keys_of (by_value es))
unfolding IsStrictlySortedBy
values_rise [] sorted = tt
values_rise (e ∷ es) sorted = (all_behind e.0 es sorted.0, values_rise es sorted.1)

abbrev pub AreFilled : Entries → Type 0
AreFilled es = All (λ (rows : Vec Row Global). IsGroup rows.items) (values_of es)

pub filled : (es : Entries) → All IsGroup (values_of (by_value es)) → AreFilled es
filled [] each k d below = absurd (omega arith)
filled (e ∷ es) each zero d below = each 0 [] (omega arith)
filled (e ∷ es) each (suc k) d below = filled es (λ i l under. each (suc i) l (omega arith)) k d (omega arith)

pub all_groups : (es : Entries) → AreFilled es → All IsGroup (values_of (by_value es))
all_groups [] each k d below = absurd (omega arith)
all_groups (e ∷ es) each zero d below = each 0 e.1 (omega arith)
all_groups (e ∷ es) each (suc k) d below = all_groups es (λ i l under. each (suc i) l (omega arith)) k d (omega arith)

none_rising : IsRising row_uri []
unfolding IsStrictlySortedBy
none_rising = tt

rows_rise : (values : Values) (q : List ℕ) → All IsGroup (values_of values) → IsRising row_uri (rows_of values q)
rows_rise [] q each = none_rising
rows_rise (e ∷ es) q each = by_cases (bytes_eq q e.0) (rows_rise es q (λ i l under. each (suc i) l (omega arith)))
  where
    by_cases : (b : Bool) → IsRising row_uri (rows_of es q)
        → IsRising row_uri (unwrap_or (cond b (Some e.1) (lookup (bytes_eq q) es)) [])
    by_cases true rest = (each 0 [] (omega arith)).rising
    by_cases false rest = rest

pub group_rises : (values : Values) (q : List ℕ) → AreGroups values → IsRising row_uri (rows_of values q)
group_rises values q groups = rows_rise values q groups.each

some_replaced : (row : Row) (rows : List Row) → 0 < length (replaced row_uri row.uri (row ∷ []) rows)
some_replaced row [] = omega arith
some_replaced row (x ∷ xs) = by_cases (texts row.uri x.uri)
  where
    by_cases : (o : Ordering) → 0 < length (match_ordering o (row ∷ x ∷ xs) (row ∷ xs) (x ∷ replaced row_uri row.uri (row ∷ []) xs))
    by_cases Less = omega arith
    by_cases Equal = omega arith
    by_cases Greater = omega arith

-- a group stays one where a row comes
pub group_put : {T E : Type 0} (r : Result T E) (row : Row) (old new : List Row) → IsGroup old
    → OnOk r (new ≡ replaced row_uri row.uri (row ∷ []) old) → OnErr r (new ≡ old) → IsGroup new
group_put (Ok t) row old new group ok err = rw ok (record {
  rising = rising_replaced row_uri row.uri (row ∷ []) old (record { keyed = (refl, tt); few = omega arith }) group.rising;
  some = some_replaced row old;
})
group_put (Err e) row old new group ok err = rw err group

pub one_group : (row : Row) → IsGroup (row ∷ [])
unfolding IsStrictlySortedBy
one_group row = record { rising = (tt, tt); some = omega arith }

-- and where a row goes and some are left
pub group_take : (uri : List ℕ) (old new : List Row) → IsGroup old → new ≡ replaced row_uri uri [] old → 0 < length new → IsGroup new
group_take uri old new group is some = record {
  rising = rw is (rising_replaced row_uri uri [] old (record { keyed = tt; few = omega arith }) group.rising);
  some = some;
}

pub on_ok : {T E : Type 0} (r : Result T E) {A B : Type 0} → OnOk r A → (A → B) → OnOk r B
on_ok (Ok t) a f = f a
on_ok (Err e) a f = tt

-- the rows that a look-up finds are a group
pub group_found : (q : List ℕ) (es : Entries) (rows : Vec Row Global) → AreFilled es → Some rows ≡ lookup (is_at (text_cmp q)) es
    → IsGroup rows.items
group_found q [] rows each found = absurd (cc)
group_found q (e ∷ es) rows each found =
    by_cases (is_at (text_cmp q) e.0) found (group_found q es rows (λ i l under. each (suc i) l (omega arith)))
  where
    by_cases : (b : Bool) → Some rows ≡ cond b (Some e.1) (lookup (is_at (text_cmp q)) es)
        → (Some rows ≡ lookup (is_at (text_cmp q)) es → IsGroup rows.items) → IsGroup rows.items
    by_cases true here rest =
        let same : rows ≡ e.1 = cc in
        rw same (each 0 e.1 (omega arith))
    by_cases false later rest = rest later

-- an entry that is written and then taken out
removed_set : (test : String Global → Bool) (es : Entries) (w : Vec Row Global) → remove_entry test (set_value test es w) ≡ remove_entry test es
removed_set test [] w = refl
removed_set test (e ∷ es) w = by_cases (test e.0) refl (removed_set test es w)
  where
    by_cases : (b : Bool) → test e.0 ≡ b → remove_entry test (set_value test es w) ≡ remove_entry test es
        → remove_entry test (cond b ((e.0, w) ∷ es) (e ∷ set_value test es w)) ≡ cond b es (e ∷ remove_entry test es)
    by_cases true is rest = rw is refl
    by_cases false is rest = rw is (ap (λ l. e ∷ l) rest)

pub all_left : (test : String Global → Bool) (es between after : Entries) (w : Vec Row Global) → AreFilled es
    → between ≡ set_value test es w → after ≡ remove_entry test between → AreFilled after
all_left test es between after w each set removed =
    let is : after ≡ remove_entry test es = removed ∙ ap (remove_entry test) set ∙ removed_set test es w in
    rw is (All-map-remove_entry test (λ e. e.1) (λ (rows : Vec Row Global). IsGroup rows.items) es each)

-- ---- the values one after the other

pub keys_seen : (es : Entries) → map string_bytes (keys_of es) ≡ keys_of (by_value es)
keys_seen [] = refl
keys_seen (e ∷ es) = ap (λ l. string_bytes e.0 ∷ l) (keys_seen es)

pub text_pushed : (texts : List (Bor (List ℕ))) (t : Bor (List ℕ)) (key : List ℕ) (rest all : List (List ℕ)) → t.now ≡ key
    → map (λ (k : Bor (List ℕ)). k.now) texts ++ (key ∷ rest) ≡ all → map (λ (k : Bor (List ℕ)). k.now) (texts ++ t ∷ []) ++ rest ≡ all
text_pushed [] t key rest all is so_far = ap (λ k. k ∷ rest) is ∙ so_far
text_pushed (x ∷ xs) t key rest all is so_far =
    ap (λ l. x.now ∷ l) (text_pushed xs t key rest (map (λ (k : Bor (List ℕ)). k.now) xs ++ (key ∷ rest)) is refl) ∙ so_far
