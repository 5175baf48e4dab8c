-- Texts that are put in one after the other: which are there, and that no other list rises with the same ones.
use Rattle.std.proofs.Common.{◌≡◌, ◌⊎◌, inl, inr, ℕ, zero, suc, ◌<◌, Bool, true, false, List, [], ◌∷◌, ◌++◌, length, cond}
use Rattle.std.proofs.Common.{Option, Some, None, BTreeSet, refl, sym, ap, ◌∙◌, arith, filter}
use Rattle.std.specs.Prelude.{slice_index_or}
use Rattle.std.specs.BTreeSet as sorted
use Rattle.std.specs.declared.cmp.Ordering.{Ordering}
use Rattle.std.specs.declared.cmp.Ordering.TheVariants.{Less, Equal, Greater}
use Rattle.std.specs.Cmp.Lexicographic.{nat_list_cmp_total}
use Rattle.std.specs.List.{Contains, cons_option, filter_map, flat_map}
use Rattle.std.specs.List.Sorted.{IsStrictlySortedBy}
use Rattle.std.specs.Ordering.{is_eq, match_ordering}
use Rattle.std.proofs.lemmas.Map.Lookups.{btree_set_from_contains}
use Rattle.std.proofs.lemmas.Map.Text.{is_eq-slice_cmp}
use Rattle.std.proofs.lemmas.Map.Views.{btree_set_contains_iff}
use Rattle.std.proofs.lemmas.Slice.Eq.{bytes_eq-Decides}
use Rattle.song_db.specs.declared.place.Place.{Place}
use Rattle.song_db.specs.Distinct.{AreTextsWith, IsValue, IsFolderIn}
use Rattle.song_db.specs.Place.{is_under}
use Rattle.song_db.specs.Query.{with_texts, distinct_of, values_of, folder_of, rows_under, folders_in}
use Rattle.song_db.specs.Replaced.{IsRising, replaced}
use Rattle.song_db.specs.Row.{Row}
use Rattle.song_db.proofs.Batches.{rising_replaced}
use Rattle.song_db.proofs.Rising.{texts}
use Rattle.song_files.specs.Tags.{texts_of}
use Rattle.song_files.specs.declared.tag.Tag.{Tag}

-- ---- what a list has

first : {X : Type 0} (x : X) (xs : List X) → Contains (x ∷ xs) x
first x xs = (0, omega arith, refl)

pub behind : {X : Type 0} (x : X) (xs : List X) (y : X) → Contains xs y → Contains (x ∷ xs) y
behind x xs y there = let within : there.0 < length xs = there.1 in (suc there.0, omega arith, there.2)

none_in_nothing : {X : Type 0} (y : X) → Contains [] y → ⊥
none_in_nothing y there = let within : there.0 < 0 = there.1 in absurd (omega arith)

pub first_or_behind : {X : Type 0} (x : X) (xs : List X) (y : X) → Contains (x ∷ xs) y → (x ≡ y) ⊎ Contains xs y
first_or_behind x xs y there = by_place there.0 there.1 there.2
  where
    by_place : (k : ℕ) → k < length (x ∷ xs) → slice_index_or (x ∷ xs) k y ≡ y → (x ≡ y) ⊎ Contains xs y
    by_place zero within is = inl is
    by_place (suc k) within is = inr (k, omega arith, is)

-- ---- a text put in

abbrev with_text : List ℕ → List (List ℕ) → List (List ℕ)
with_text text known = replaced (λ t. t) text (text ∷ []) known

equal_texts : (a b : List ℕ) → texts a b ≡ Equal → a ≡ b
equal_texts a b tied = (bytes_eq-Decides a b).0 (sym (is_eq-slice_cmp a b) ∙ ap is_eq tied)

it_is_there : (text : List ℕ) (known : List (List ℕ)) → Contains (with_text text known) text
it_is_there text [] = first text []
it_is_there text (x ∷ xs) = by_cases (texts text x) (it_is_there text xs)
  where
    by_cases : (o : Ordering) → Contains (with_text text xs) text
        → Contains (match_ordering o (text ∷ x ∷ xs) (text ∷ xs) (x ∷ with_text text xs)) text
    by_cases Less rest = first text (x ∷ xs)
    by_cases Equal rest = first text xs
    by_cases Greater rest = behind x (with_text text xs) text rest

others_stay : (text : List ℕ) (known : List (List ℕ)) (q : List ℕ) → Contains known q → Contains (with_text text known) q
others_stay text [] q there = absurd (none_in_nothing q there)
others_stay text (x ∷ xs) q there =
    by_cases (texts text x) refl (first_or_behind x xs q there) (others_stay text xs q)
  where
    by_cases : (o : Ordering) → texts text x ≡ o → (x ≡ q) ⊎ Contains xs q → (Contains xs q → Contains (with_text text xs) q)
        → Contains (match_ordering o (text ∷ x ∷ xs) (text ∷ xs) (x ∷ with_text text xs)) q
    by_cases Less h which rest = behind text (x ∷ xs) q there
    by_cases Equal h (inl is) rest =
        let same : text ≡ q = equal_texts text x h ∙ is in
        (0, omega arith, same)
    by_cases Equal h (inr later) rest = behind text xs q later
    by_cases Greater h (inl is) rest = (0, omega arith, is)
    by_cases Greater h (inr later) rest = behind x (with_text text xs) q (rest later)

no_other : (text : List ℕ) (known : List (List ℕ)) (q : List ℕ) → Contains (with_text text known) q → (text ≡ q) ⊎ Contains known q
no_other text [] q there = first_or_behind text [] q there
no_other text (x ∷ xs) q there = by_cases (texts text x) there (no_other text xs q)
  where
    wider : (text ≡ q) ⊎ Contains xs q → (text ≡ q) ⊎ Contains (x ∷ xs) q
    wider (inl is) = inl is
    wider (inr later) = inr (behind x xs q later)

    by_rest : (x ≡ q) ⊎ Contains (with_text text xs) q → (Contains (with_text text xs) q → (text ≡ q) ⊎ Contains xs q)
        → (text ≡ q) ⊎ Contains (x ∷ xs) q
    by_rest (inl is) rest = inr (0, omega arith, is)
    by_rest (inr later) rest = wider (rest later)

    by_cases : (o : Ordering) → Contains (match_ordering o (text ∷ x ∷ xs) (text ∷ xs) (x ∷ with_text text xs)) q
        → (Contains (with_text text xs) q → (text ≡ q) ⊎ Contains xs q) → (text ≡ q) ⊎ Contains (x ∷ xs) q
    by_cases Less at rest = first_or_behind text (x ∷ xs) q at
    by_cases Equal at rest = wider (first_or_behind text xs q at)
    by_cases Greater at rest = by_rest (first_or_behind x (with_text text xs) q at) rest

-- ---- texts put in one after the other

known_stay : (known ts : List (List ℕ)) (q : List ℕ) → Contains known q → Contains (with_texts known ts) q
known_stay known [] q there = there
known_stay known (t ∷ ts) q there = known_stay (with_text t known) ts q (others_stay t known q there)

all_come : (known ts : List (List ℕ)) (q : List ℕ) → Contains ts q → Contains (with_texts known ts) q
all_come known [] q there = absurd (none_in_nothing q there)
all_come known (t ∷ ts) q there = by_cases (first_or_behind t ts q there) (all_come (with_text t known) ts q)
  where
    by_cases : (t ≡ q) ⊎ Contains ts q → (Contains ts q → Contains (with_texts (with_text t known) ts) q)
        → Contains (with_texts (with_text t known) ts) q
    by_cases (inl is) rest = known_stay (with_text t known) ts q (rw (← is) (it_is_there t known))
    by_cases (inr later) rest = rest later

no_more : (known ts : List (List ℕ)) (q : List ℕ) → Contains (with_texts known ts) q → Contains ts q ⊎ Contains known q
no_more known [] q there = inr there
no_more known (t ∷ ts) q there = by_cases (no_more (with_text t known) ts q there)
  where
    by_text : (t ≡ q) ⊎ Contains known q → Contains (t ∷ ts) q ⊎ Contains known q
    by_text (inl is) = inl (0, omega arith, is)
    by_text (inr before) = inr before

    by_cases : Contains ts q ⊎ Contains (with_text t known) q → Contains (t ∷ ts) q ⊎ Contains known q
    by_cases (inl later) = inl (behind t ts q later)
    by_cases (inr at) = by_text (no_other t known q at)

all_rise : (known ts : List (List ℕ)) → IsRising (λ t. t) known → IsRising (λ t. t) (with_texts known ts)
all_rise known [] rising = rising
all_rise known (t ∷ ts) rising = all_rise (with_text t known) ts (rising_replaced (λ t. t) t (t ∷ []) known (record {
  keyed = (refl, tt);
  few = omega arith;
}) rising)

pub nothing_rises : IsRising (λ (t : List ℕ). t) []
unfolding IsStrictlySortedBy
nothing_rises = tt

distinct_has : (ts : List (List ℕ)) (q : List ℕ) → Contains (distinct_of ts) q → Contains ts q
distinct_has ts q there = by_cases (no_more [] ts q there)
  where
    by_cases : Contains ts q ⊎ Contains [] q → Contains ts q
    by_cases (inl at) = at
    by_cases (inr at) = absurd (none_in_nothing q at)

-- ---- what is made of each element

made_from : {X Y : Type 0} (make : X → Option Y) (xs : List X) (y : Y) → Contains (filter_map make xs) y
    → (x : X) × Contains xs x × (make x ≡ Some y)
made_from make [] y there = absurd (none_in_nothing y there)
made_from {X} {Y} make (x ∷ xs) y there = by_cases (make x) refl there (made_from make xs y)
  where
    later : (z : X) × Contains xs z × (make z ≡ Some y) → (z : X) × Contains (x ∷ xs) z × (make z ≡ Some y)
    later found = (found.0, behind x xs found.0 found.1, found.2)

    by_first : (one : Y) → make x ≡ Some one → (one ≡ y) ⊎ Contains (filter_map make xs) y
        → (Contains (filter_map make xs) y → (z : X) × Contains xs z × (make z ≡ Some y))
        → (z : X) × Contains (x ∷ xs) z × (make z ≡ Some y)
    by_first one h (inl is) rest = (x, first x xs, h ∙ ap Some is)
    by_first one h (inr at) rest = later (rest at)

    by_cases : (o : Option Y) → make x ≡ o → Contains (cons_option o (filter_map make xs)) y
        → (Contains (filter_map make xs) y → (z : X) × Contains xs z × (make z ≡ Some y))
        → (z : X) × Contains (x ∷ xs) z × (make z ≡ Some y)
    by_cases None h at rest = later (rest at)
    by_cases (Some one) h at rest = by_first one h (first_or_behind one (filter_map make xs) y at) rest

made_of_each : {X Y : Type 0} (make : X → Option Y) (xs : List X) (x : X) (y : Y) → Contains xs x → make x ≡ Some y
    → Contains (filter_map make xs) y
made_of_each make [] x y there is = absurd (none_in_nothing x there)
made_of_each {X} {Y} make (z ∷ xs) x y there is =
    by_cases (first_or_behind z xs x there) (λ at. made_of_each make xs x y at is)
  where
    kept : (o : Option Y) → Contains (filter_map make xs) y → Contains (cons_option o (filter_map make xs)) y
    kept None at = at
    kept (Some one) at = behind one (filter_map make xs) y at

    by_cases : (z ≡ x) ⊎ Contains xs x → (Contains xs x → Contains (filter_map make xs) y) → Contains (filter_map make (z ∷ xs)) y
    by_cases (inl same) rest =
        let made : make z ≡ Some y = ap make same ∙ is in
        rw made (first y (filter_map make xs))
    by_cases (inr at) rest = kept (make z) (rest at)

pub passed_from : {X : Type 0} (test : X → Bool) (xs : List X) (x : X) → Contains (filter test xs) x → Contains xs x × (test x ≡ true)
passed_from test [] x there = absurd (none_in_nothing x there)
passed_from {X} test (z ∷ xs) x there = by_cases (test z) refl there (passed_from test xs x)
  where
    later : Contains xs x × (test x ≡ true) → Contains (z ∷ xs) x × (test x ≡ true)
    later found = (behind z xs x found.0, found.1)

    by_first : test z ≡ true → (z ≡ x) ⊎ Contains (filter test xs) x
        → (Contains (filter test xs) x → Contains xs x × (test x ≡ true)) → Contains (z ∷ xs) x × (test x ≡ true)
    by_first h (inl is) rest = ((0, omega arith, is), ap test (sym is) ∙ h)
    by_first h (inr at) rest = later (rest at)

    by_cases : (b : Bool) → test z ≡ b → Contains (cond b (z ∷ filter test xs) (filter test xs)) x
        → (Contains (filter test xs) x → Contains xs x × (test x ≡ true)) → Contains (z ∷ xs) x × (test x ≡ true)
    by_cases true h at rest = by_first h (first_or_behind z (filter test xs) x at) rest
    by_cases false h at rest = later (rest at)

pub each_passes : {X : Type 0} (test : X → Bool) (xs : List X) (x : X) → Contains xs x → test x ≡ true → Contains (filter test xs) x
each_passes test [] x there is = absurd (none_in_nothing x there)
each_passes {X} test (z ∷ xs) x there is = by_cases (first_or_behind z xs x there) (λ at. each_passes test xs x at is)
  where
    kept : (b : Bool) → Contains (filter test xs) x → Contains (cond b (z ∷ filter test xs) (filter test xs)) x
    kept true at = behind z (filter test xs) x at
    kept false at = at

    by_cases : (z ≡ x) ⊎ Contains xs x → (Contains xs x → Contains (filter test xs) x) → Contains (filter test (z ∷ xs)) x
    by_cases (inl same) rest =
        let passes : test z ≡ true = ap test same ∙ is in
        rw passes (0, omega arith, same)
    by_cases (inr at) rest = kept (test z) (rest at)

in_either : {X : Type 0} (xs ys : List X) (y : X) → Contains (xs ++ ys) y → Contains xs y ⊎ Contains ys y
in_either [] ys y there = inr there
in_either {X} (x ∷ xs) ys y there = by_cases (first_or_behind x (xs ++ ys) y there) (in_either xs ys y)
  where
    by_rest : Contains xs y ⊎ Contains ys y → Contains (x ∷ xs) y ⊎ Contains ys y
    by_rest (inl at) = inl (behind x xs y at)
    by_rest (inr at) = inr at

    by_cases : (x ≡ y) ⊎ Contains (xs ++ ys) y → (Contains (xs ++ ys) y → Contains xs y ⊎ Contains ys y)
        → Contains (x ∷ xs) y ⊎ Contains ys y
    by_cases (inl is) rest = inl (0, omega arith, is)
    by_cases (inr at) rest = by_rest (rest at)

in_front : {X : Type 0} (xs ys : List X) (y : X) → Contains xs y → Contains (xs ++ ys) y
in_front [] ys y there = absurd (none_in_nothing y there)
in_front {X} (x ∷ xs) ys y there = by_cases (first_or_behind x xs y there) (in_front xs ys y)
  where
    by_cases : (x ≡ y) ⊎ Contains xs y → (Contains xs y → Contains (xs ++ ys) y) → Contains (x ∷ (xs ++ ys)) y
    by_cases (inl is) rest = (0, omega arith, is)
    by_cases (inr at) rest = behind x (xs ++ ys) y (rest at)

in_back : {X : Type 0} (xs ys : List X) (y : X) → Contains ys y → Contains (xs ++ ys) y
in_back [] ys y there = there
in_back (x ∷ xs) ys y there = behind x (xs ++ ys) y (in_back xs ys y there)

all_from : {X Y : Type 0} (make : X → List Y) (xs : List X) (y : Y) → Contains (flat_map make xs) y
    → (x : X) × Contains xs x × Contains (make x) y
all_from make [] y there = absurd (none_in_nothing y there)
all_from {X} {Y} make (x ∷ xs) y there = by_cases (in_either (make x) (flat_map make xs) y there) (all_from make xs y)
  where
    later : (z : X) × Contains xs z × Contains (make z) y → (z : X) × Contains (x ∷ xs) z × Contains (make z) y
    later found = (found.0, behind x xs found.0 found.1, found.2)

    by_cases : Contains (make x) y ⊎ Contains (flat_map make xs) y
        → (Contains (flat_map make xs) y → (z : X) × Contains xs z × Contains (make z) y)
        → (z : X) × Contains (x ∷ xs) z × Contains (make z) y
    by_cases (inl at) rest = (x, first x xs, at)
    by_cases (inr at) rest = later (rest at)

all_of : {X Y : Type 0} (make : X → List Y) (xs : List X) (x : X) (y : Y) → Contains xs x → Contains (make x) y
    → Contains (flat_map make xs) y
all_of make [] x y there is = absurd (none_in_nothing x there)
all_of {X} {Y} make (z ∷ xs) x y there is = by_cases (first_or_behind z xs x there) (λ at. all_of make xs x y at is)
  where
    by_cases : (z ≡ x) ⊎ Contains xs x → (Contains xs x → Contains (flat_map make xs) y) → Contains (make z ++ flat_map make xs) y
    by_cases (inl same) rest =
        let own : Contains (make z) y = rw same is in
        in_front (make z) (flat_map make xs) y own
    by_cases (inr at) rest = in_back (make z) (flat_map make xs) y (rest at)

-- ---- the laws

pub each_value : (rows : List Row) (tag : Tag) → AreTextsWith (IsValue rows tag) (values_of rows tag)
each_value rows tag =
    record {
      rising = all_rise [] all nothing_rises;
      each = λ text. (told text, has text);
    }
  where
    all : List (List ℕ)
    all = flat_map (λ (row : Row). texts_of row.tags tag) rows

    told : (text : List ℕ) → Contains (values_of rows tag) text → IsValue rows tag text
    told text there = all_from (λ (row : Row). texts_of row.tags tag) rows text (distinct_has all text there)

    has : (text : List ℕ) → IsValue rows tag text → Contains (values_of rows tag) text
    has text value = all_come [] all text (all_of (λ (row : Row). texts_of row.tags tag) rows value.0 text value.1 value.2)

pub each_folder : (rows : List Row) (place : Place) → AreTextsWith (IsFolderIn rows place) (folders_in rows place)
each_folder rows place =
    record {
      rising = all_rise [] (filter_map (λ row. folder_of place row.uri) (rows_under rows place)) nothing_rises;
      each = λ folder. (told folder, has folder);
    }
  where
    told : (folder : List ℕ) → Contains (folders_in rows place) folder → IsFolderIn rows place folder
    told folder there =
        let made = made_from (λ (row : Row). folder_of place row.uri) (rows_under rows place) folder (distinct_has (filter_map (λ
        row. folder_of place row.uri) (rows_under rows place)) folder there) in
        let under = passed_from (λ (row : Row). is_under place row.uri) rows made.0 made.1 in
        (made.0, under.0, under.1, made.2)

    has : (folder : List ℕ) → IsFolderIn rows place folder → Contains (folders_in rows place) folder
    has folder one = all_come [] (filter_map (λ row. folder_of place row.uri) (rows_under rows place)) folder
        (made_of_each (λ (row : Row). folder_of place row.uri) (rows_under rows place) one.0 folder (each_passes (λ (row : Row).
        is_under place row.uri) rows one.0 one.1 one.2) one.3)

pub one_list : (property : List ℕ → Type 0) (some others : List (List ℕ)) → AreTextsWith property some
    → AreTextsWith property others → some ≡ others
one_list property some others one other = btree_set_from_contains nat_list_cmp_total (set_of some) (set_of others) one.rising
    other.rising same equal_texts
  where
    set_of : List (List ℕ) → BTreeSet (List ℕ)
    set_of keys = record { keys = keys }

    has : List (List ℕ) → List ℕ → Bool
    has keys q = sorted.contains texts (record { keys = keys }) q

    in_both : (xs ys : List (List ℕ)) (q : List ℕ) → (Contains xs q → Contains ys q) → has xs q ≡ true → has ys q ≡ true
    in_both xs ys q over h = (btree_set_contains_iff nat_list_cmp_total equal_texts (record { keys = ys }) q).1 (over
        ((btree_set_contains_iff nat_list_cmp_total equal_texts (record { keys = xs }) q).0 h))

    alike : (a b : Bool) → (a ≡ true → b ≡ true) → (b ≡ true → a ≡ true) → a ≡ b
    alike true b there back = sym (there refl)
    alike false true there back = back refl
    alike false false there back = refl

    same : (q : List ℕ) → has some q ≡ has others q
    same q = alike (has some q) (has others q) (in_both some others q (λ at. (other.each q).1 ((one.each q).0 at)))
        (in_both others some q (λ at. (one.each q).1 ((other.each q).0 at)))
