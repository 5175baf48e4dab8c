-- A walk rises by the bytes of the paths, a folder before a song of the same path.
use Rattle.std.proofs.Common.{◌≡◌, ℕ, zero, suc, ◌+◌, ◌≤◌, Bool, true, false, List, [], ◌∷◌, ◌++◌, drop, map, filter}
use Rattle.std.proofs.Common.{nat_lt, nat_eq, cond, refl, arith}
use Rattle.std.proofs.lemmas.Bool.Decides.{nat_tests}
use Rattle.std.proofs.lemmas.List.Kept.{IsStrictlySortedBy-filter}
use Rattle.std.specs.List.{common_prefix_len, AllByRecursion}
use Rattle.std.specs.List.Sorted.{IsStrictlySortedBy}
use Rattle.std.specs.declared.cmp.Ordering.{Ordering}
use Rattle.std.specs.declared.cmp.Ordering.TheVariants.{Less, Equal, Greater}
use Rattle.std.specs.Cmp.Lexicographic.{nat_list_cmp_total}
use Rattle.std.specs.Ordering.{nat_cmp, is_le, ordering_then}
use Rattle.song_db.specs.declared.place.Place.{Place}
use Rattle.song_db.specs.Replaced.{IsRising}
use Rattle.song_db.specs.Row.{Row, row_uri}
use Rattle.song_db.specs.Walk.{Item, path_of, by_path, is_folder_under, beginnings, shared, opened, walk_from}
use Rattle.song_db.specs.Walk.Item.{FolderAt, SongOf}
use Rattle.song_db.proofs.Beginnings.{drop-map}
use Rattle.song_db.proofs.Rising.{texts}

-- ---- lists

all_drop : {X : Type 0} (P : X → Type 0) (n : ℕ) (xs : List X) → AllByRecursion P xs → AllByRecursion P (drop n xs)
all_drop P zero xs all = all
all_drop P (suc n) [] all = tt
all_drop P (suc n) (x ∷ xs) all = all_drop P n xs all.1

all_filter : {X : Type 0} (P : X → Type 0) (p : X → Bool) (xs : List X) → AllByRecursion P xs → AllByRecursion P (filter p xs)
all_filter P p [] all = tt
all_filter {X} P p (x ∷ xs) all = by_test (p x) (all_filter P p xs all.1)
  where
    by_test : (b : Bool) → AllByRecursion P (filter p xs) → AllByRecursion P (cond b (x ∷ filter p xs) (filter p xs))
    by_test true rest = (all.0, rest)
    by_test false rest = rest

all_map : {X Y : Type 0} (P : X → Type 0) (Q : Y → Type 0) (f : X → Y) → ((x : X) → P x → Q (f x)) → (xs : List X)
    → AllByRecursion P xs → AllByRecursion Q (map f xs)
all_map P Q f step [] all = tt
all_map P Q f step (x ∷ xs) all = (step x all.0, all_map P Q f step xs all.1)

all_append : {X : Type 0} (P : X → Type 0) (xs ys : List X) → AllByRecursion P xs → AllByRecursion P ys → AllByRecursion P (xs ++ ys)
all_append P [] ys front back = back
all_append P (x ∷ xs) ys front back = (front.0, all_append P xs ys front.1 back)

all_also : {X : Type 0} (P Q : X → Type 0) → ((x : X) → P x → Q x) → (xs : List X) → AllByRecursion P xs → AllByRecursion Q xs
all_also P Q step [] all = tt
all_also P Q step (x ∷ xs) all = (step x all.0, all_also P Q step xs all.1)

pub sorted_drop : {X : Type 0} (c : X → X → Ordering) (n : ℕ) (xs : List X) → IsStrictlySortedBy c xs → IsStrictlySortedBy c (drop n xs)
unfolding IsStrictlySortedBy
sorted_drop c zero xs sorted = sorted
sorted_drop c (suc n) [] sorted = tt
sorted_drop c (suc n) (x ∷ xs) sorted = sorted_drop c n xs sorted.1

pub sorted_map : {X Y : Type 0} (c : X → X → Ordering) (d : Y → Y → Ordering) (f : X → Y) → ((x y : X) → c x y ≡ Less → d (f x) (f y) ≡ Less)
    → (xs : List X) → IsStrictlySortedBy c xs → IsStrictlySortedBy d (map f xs)
unfolding IsStrictlySortedBy
sorted_map c d f step [] sorted = tt
sorted_map c d f step (x ∷ xs) sorted =
    (all_map (λ y. c x y ≡ Less) (λ y. d (f x) y ≡ Less) f (step x) xs sorted.0, sorted_map c d f step xs sorted.1)

sorted_append : {X : Type 0} (c : X → X → Ordering) (xs ys : List X) → IsStrictlySortedBy c xs → IsStrictlySortedBy c ys
    → AllByRecursion (λ x. AllByRecursion (λ y. c x y ≡ Less) ys) xs → IsStrictlySortedBy c (xs ++ ys)
unfolding IsStrictlySortedBy
sorted_append c [] ys front back across = back
sorted_append c (x ∷ xs) ys front back across =
    (all_append (λ y. c x y ≡ Less) xs ys front.0 across.0, sorted_append c xs ys front.1 back across.1)

-- ---- what a path begins with

same_byte : (b : ℕ) → nat_cmp b b ≡ Equal
same_byte b =
    let less : nat_lt b b ≡ false = grind (arith, nat_tests) in
    let equal : nat_eq b b ≡ true = grind (arith, nat_tests) in
    rw (less, equal) refl

not_empty : (path : List ℕ) → AllByRecursion (λ q. texts [] q ≡ Less) (beginnings path)
not_empty [] = tt
not_empty (b ∷ path) =
    (refl, all_map (λ q. texts [] q ≡ Less) (λ q. texts [] q ≡ Less) (λ q. b ∷ q) (λ q h. refl) (beginnings path) (not_empty path))

beginnings_rise : (path : List ℕ) → IsStrictlySortedBy texts (beginnings path)
unfolding IsStrictlySortedBy
beginnings_rise [] = tt
beginnings_rise (b ∷ path) = (
  all_map (λ q. texts [] q ≡ Less) (λ q. texts (b ∷ []) q ≡ Less) (λ q. b ∷ q) (λ q h. rw (same_byte b) h) (beginnings path)
      (not_empty path),
  sorted_map texts texts (λ q. b ∷ q) (λ p q h. rw (same_byte b) h) (beginnings path) (beginnings_rise path),
)

-- it is no later than the path, and before what comes behind the path
record IsBegun (path q : List ℕ) : Type 0 where
  low : is_le (texts q path) ≡ true
  before : (later : List ℕ) → texts path later ≡ Less → texts q later ≡ Less

begun_first : (b : ℕ) (path : List ℕ) → IsBegun (b ∷ path) (b ∷ [])
begun_first b path = record { low = rw (same_byte b) (low path); before = before }
  where
    low : (path : List ℕ) → is_le (texts [] path) ≡ true
    low [] = refl
    low (x ∷ xs) = refl

    before : (later : List ℕ) → texts (b ∷ path) later ≡ Less → texts (b ∷ []) later ≡ Less
    before [] h = absurd (cc)
    before (y ∷ ys) h = by_cases (nat_cmp b y) h
      where
        behind : (path ys : List ℕ) → texts path ys ≡ Less → texts [] ys ≡ Less
        behind [] ys h = h
        behind (x ∷ xs) [] h = absurd (cc)
        behind (x ∷ xs) (z ∷ zs) h = refl

        by_cases : (o : Ordering) → ordering_then o (texts path ys) ≡ Less → ordering_then o (texts [] ys) ≡ Less
        by_cases Less h = refl
        by_cases Equal h = behind path ys h
        by_cases Greater h = absurd (cc)

begun_more : (b : ℕ) (path q : List ℕ) → IsBegun path q → IsBegun (b ∷ path) (b ∷ q)
begun_more b path q begun = record { low = rw (same_byte b) begun.low; before = before }
  where
    before : (later : List ℕ) → texts (b ∷ path) later ≡ Less → texts (b ∷ q) later ≡ Less
    before [] h = absurd (cc)
    before (y ∷ ys) h = by_cases (nat_cmp b y) h
      where
        by_cases : (o : Ordering) → ordering_then o (texts path ys) ≡ Less → ordering_then o (texts q ys) ≡ Less
        by_cases Less h = refl
        by_cases Equal h = begun.before ys h
        by_cases Greater h = absurd (cc)

all_begun : (path : List ℕ) → AllByRecursion (IsBegun path) (beginnings path)
all_begun [] = tt
all_begun (b ∷ path) =
    (begun_first b path, all_map (IsBegun path) (IsBegun (b ∷ path)) (λ q. b ∷ q) (begun_more b path) (beginnings path) (all_begun path))

-- those that are longer than what an earlier path shares come after that path
new_above : (earlier path : List ℕ) (n : ℕ) → texts earlier path ≡ Less → common_prefix_len (λ a b. nat_eq a b) earlier path ≤ n
    → AllByRecursion (λ q. texts earlier q ≡ Less) (drop n (beginnings path))
new_above [] path n less within = all_drop (λ q. texts [] q ≡ Less) n (beginnings path) (not_empty path)
new_above (x ∷ xs) [] n less within = absurd (cc)
new_above (x ∷ xs) (y ∷ ys) n less within = by_cases (nat_lt x y) refl (nat_eq x y) refl n less within (new_above xs ys)
  where
    first : nat_cmp x y ≡ Less → AllByRecursion (λ q. texts (x ∷ xs) q ≡ Less) (beginnings (y ∷ ys))
    first h = (
      rw h refl,
      all_map (λ q. texts [] q ≡ Less) (λ q. texts (x ∷ xs) q ≡ Less) (λ q. y ∷ q) (λ q g. rw h refl) (beginnings
          ys) (not_empty ys),
    )

    deeper : (m : ℕ) → nat_cmp x y ≡ Equal → AllByRecursion (λ q. texts xs q ≡ Less) (drop m (beginnings ys))
        → AllByRecursion (λ q. texts (x ∷ xs) q ≡ Less) (drop m (map (λ q. y ∷ q) (beginnings ys)))
    deeper m h rest = rw (drop-map (λ q. y ∷ q) m (beginnings ys)) (all_map (λ q. texts xs q ≡ Less) (λ q. texts (x ∷ xs) q ≡ Less)
        (λ q. y ∷ q) (λ q g. rw h g) (drop m (beginnings ys)) rest)

    by_cases : (a : Bool) → nat_lt x y ≡ a → (b : Bool) → nat_eq x y ≡ b → (n : ℕ)
        → ordering_then (cond a Less (cond b Equal Greater)) (texts xs ys) ≡ Less
        → cond b (1 + common_prefix_len (λ a b. nat_eq a b) xs ys) 0 ≤ n
        → ((m : ℕ) → texts xs ys ≡ Less → common_prefix_len (λ a b. nat_eq a b) xs ys ≤ m
        → AllByRecursion (λ q. texts xs q ≡ Less) (drop m (beginnings ys)))
        → AllByRecursion (λ q. texts (x ∷ xs) q ≡ Less) (drop n (beginnings (y ∷ ys)))
    by_cases true g b h n less within rest = all_drop (λ q. texts (x ∷ xs) q ≡ Less) n (beginnings (y ∷ ys)) (first (rw g refl))
    by_cases false g true h zero less within rest = absurd (omega arith)
    by_cases false g true h (suc m) less within rest = deeper m (rw (g, h) refl) (rest m less (omega arith))
    by_cases false g false h n less within rest = absurd (cc)

-- ---- the walk

by_less : (a b : Item) → texts (path_of a) (path_of b) ≡ Less → by_path a b ≡ Less
by_less a b less = rw less refl

folder_first : (q : List ℕ) (row : Row) → is_le (texts q row.uri) ≡ true → by_path (FolderAt q) (SongOf row) ≡ Less
folder_first q row low = by_cases (texts q row.uri) low
  where
    by_cases : (o : Ordering) → is_le o ≡ true → ordering_then o (nat_cmp 0 1) ≡ Less
    by_cases Less h = refl
    by_cases Equal h = refl
    by_cases Greater h = absurd (cc)

abbrev IsAbove : Row → Item → Type 0
IsAbove row item = texts row.uri (path_of item) ≡ Less

new_folders_above : (place : Place) (row next : Row) (rows : List Row) → texts row.uri next.uri ≡ Less
    → AllByRecursion (IsAbove row) (map FolderAt (opened place (shared row.uri (next ∷ rows)) (next ∷ rows)))
new_folders_above place row next rows less = all_map (λ q. texts row.uri q ≡ Less) (IsAbove row) FolderAt (λ q h. h) (opened place
    (shared row.uri (next ∷ rows)) (next ∷ rows)) (all_filter (λ q. texts row.uri q ≡ Less) (is_folder_under place (next ∷ rows))
    (drop (shared row.uri (next ∷ rows)) (beginnings next.uri)) (new_above row.uri next.uri (shared row.uri (next ∷ rows)) less (omega
    arith)))

-- all that comes behind a row is above it
above : (place : Place) (row : Row) (rows : List Row) → IsRising row_uri (row ∷ rows)
    → AllByRecursion (IsAbove row) (walk_from place (shared row.uri rows) rows)
unfolding IsStrictlySortedBy
above place row [] rising = tt
above place row (next ∷ rows) rising = all_append (IsAbove row) (map FolderAt (opened place (shared row.uri (next ∷ rows)) (next ∷
    rows))) (SongOf next ∷ walk_from place (shared next.uri rows) rows) (new_folders_above place row next rows rising.0.0) (
      rising.0.0,
      all_also (IsAbove next) (IsAbove row) (λ item h. nat_list_cmp_total.trans row.uri next.uri (path_of item) rising.0.0
          h) (walk_from place (shared next.uri rows) rows) (above place next rows rising.1),
    )

folders_rise : (place : Place) (n : ℕ) (row : Row) (rows : List Row)
    → IsStrictlySortedBy by_path (map FolderAt (opened place n (row ∷ rows)))
folders_rise place n row rows = sorted_map texts by_path FolderAt (λ p q h. by_less (FolderAt p) (FolderAt q) h) (opened place n (row
    ∷ rows)) (IsStrictlySortedBy-filter texts (is_folder_under place (row ∷ rows)) (drop n (beginnings row.uri)) (sorted_drop texts n
    (beginnings row.uri) (beginnings_rise row.uri)))

across : (place : Place) (n : ℕ) (row : Row) (rows : List Row) (later : List Item) → AllByRecursion (IsAbove row) later
    → AllByRecursion (λ x. AllByRecursion (λ y. by_path x y ≡ Less) (SongOf row ∷ later)) (map FolderAt (opened place n (row ∷ rows)))
across place n row rows later behind = all_map (IsBegun row.uri) (λ x. AllByRecursion (λ y. by_path x y ≡ Less) (SongOf row ∷ later))
    FolderAt (λ q begun. (
      folder_first q row begun.low,
      all_also (IsAbove row) (λ item. by_path (FolderAt q) item ≡ Less) (λ item h.
          by_less (FolderAt q) item (begun.before (path_of item) h)) later behind,
    )) (opened place n (row ∷ rows)) (all_filter (IsBegun
    row.uri) (is_folder_under place (row ∷ rows)) (drop n (beginnings row.uri)) (all_drop (IsBegun row.uri) n (beginnings row.uri)
    (all_begun row.uri)))

song_first : (row : Row) (later : List Item) → AllByRecursion (IsAbove row) later → IsStrictlySortedBy by_path later
    → IsStrictlySortedBy by_path (SongOf row ∷ later)
unfolding IsStrictlySortedBy
song_first row later behind sorted = (
  all_also (IsAbove row) (λ item. by_path (SongOf row) item ≡ Less) (λ item h. by_less (SongOf row)
      item h) later behind,
  sorted,
)

pub walk_rises : (place : Place) (n : ℕ) (rows : List Row) → IsRising row_uri rows → IsStrictlySortedBy by_path (walk_from place n rows)
unfolding IsStrictlySortedBy
walk_rises place n [] rising = tt
walk_rises place n (row ∷ rows) rising =
    let behind = above place row rows rising in
    let later = walk_from place (shared row.uri rows) rows in
    sorted_append by_path (map FolderAt (opened place n (row ∷ rows))) (SongOf row ∷ later) (folders_rise place n row rows) (song_first
    row later behind (walk_rises place (shared row.uri rows) rows rising.1)) (across place n row rows later behind)
