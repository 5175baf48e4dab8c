-- A walk has each song and each folder once, in order.
use Rattle.std.proofs.Common.{◌≡◌, ◌⊎◌, inl, inr, ℕ, suc, ◌+◌, ◌-◌, ◌<◌, ◌≤◌, Bool, true, false, ◌&&◌, ◌||◌, List, [], ◌∷◌, ◌++◌}
use Rattle.std.proofs.Common.{length, take, drop, map, filter, get_or, cond, refl, sym, ap, ◌∙◌, arith}
use Rattle.std.proofs.Common.{length-take, length-drop}
use Rattle.std.proofs.lemmas.Bool.{cases_lt}
use Rattle.std.proofs.lemmas.List.{get_or-drop}
use Rattle.std.proofs.lemmas.Slice.Eq.{bytes_eq-Decides}
use Rattle.std.specs.Prelude.{⊤}
use Rattle.std.specs.List.{list_any}
use Rattle.std.specs.Str.{bytes_eq}
use Rattle.song_db.specs.declared.place.Place.{Place}
use Rattle.song_db.specs.Place.{is_below, is_under}
use Rattle.song_db.specs.Query.{rows_under}
use Rattle.song_db.specs.Replaced.{IsRising}
use Rattle.song_db.specs.Row.{Row, row_uri}
use Rattle.song_db.specs.Walk.{Item, folders_among, songs_among, has_path, is_folder_under}
use Rattle.song_db.specs.Walk.{IsWalk, beginnings, shared, opened, walk_from, walk_of}
use Rattle.song_db.specs.Walk.Item.{FolderAt, SongOf}
use Rattle.song_db.proofs.Beginnings.{beginnings-length, beginnings_at, shared_beginning}
use Rattle.song_db.proofs.Below.{below_short, below_long}
use Rattle.song_db.proofs.Opened.{any_at}
use Rattle.song_db.proofs.WalkOrder.{walk_rises}

-- ---- the songs

songs_behind : (folders : List (List ℕ)) (items : List Item) → songs_among (map FolderAt folders ++ items) ≡ songs_among items
songs_behind [] items = refl
songs_behind (folder ∷ folders) items = songs_behind folders items

songs_of_walk : (place : Place) (n : ℕ) (rows : List Row) → songs_among (walk_from place n rows) ≡ rows
songs_of_walk place n [] = refl
songs_of_walk place n (row ∷ rows) =
    songs_behind (opened place n (row ∷ rows)) (SongOf row ∷ walk_from place (shared row.uri rows) rows)
    ∙ ap (λ rs. row ∷ rs) (songs_of_walk place (shared row.uri rows) rows)

-- ---- the folders

folders_behind : (folders : List (List ℕ)) (items : List Item)
    → folders_among (map FolderAt folders ++ items) ≡ folders ++ folders_among items
folders_behind [] items = refl
folders_behind (folder ∷ folders) items = ap (λ fs. folder ∷ fs) (folders_behind folders items)

has-append : (path : List ℕ) (xs ys : List (List ℕ)) → has_path (xs ++ ys) path ≡ (has_path xs path || has_path ys path)
has-append path [] ys = refl
has-append path (x ∷ xs) ys = by_test (bytes_eq path x) (has-append path xs ys)
  where
    by_test : (b : Bool) → has_path (xs ++ ys) path ≡ (has_path xs path || has_path ys path)
        → (b || has_path (xs ++ ys) path) ≡ ((b || has_path xs path) || has_path ys path)
    by_test true rest = refl
    by_test false rest = rest

filtered_only : (p : List ℕ → Bool) (path : List ℕ) (xs : List (List ℕ)) → has_path (filter p xs) path ≡ true → p path ≡ true
filtered_only p path [] h = absurd (cc)
filtered_only p path (x ∷ xs) h = by_test (p x) refl h (filtered_only p path xs)
  where
    by_test : (b : Bool) → p x ≡ b → has_path (cond b (x ∷ filter p xs) (filter p xs)) path ≡ true
        → (has_path (filter p xs) path ≡ true → p path ≡ true) → p path ≡ true
    by_test false is h rest = rest h
    by_test true is h rest = by_same (bytes_eq path x) refl h
      where
        by_same : (c : Bool) → bytes_eq path x ≡ c → (c || has_path (filter p xs) path) ≡ true → p path ≡ true
        by_same true same h = rw ((bytes_eq-Decides path x).0 same) is
        by_same false other h = rest h

filtered_too : (p : List ℕ → Bool) (path : List ℕ) (xs : List (List ℕ)) → p path ≡ true → has_path xs path ≡ true
    → has_path (filter p xs) path ≡ true
filtered_too p path [] passes h = absurd (cc)
filtered_too p path (x ∷ xs) passes h = by_same (bytes_eq path x) refl h (filtered_too p path xs passes)
  where
    by_same : (c : Bool) → bytes_eq path x ≡ c → (c || has_path xs path) ≡ true
        → (has_path xs path ≡ true → has_path (filter p xs) path ≡ true)
        → has_path (cond (p x) (x ∷ filter p xs) (filter p xs)) path ≡ true
    by_same true same h rest =
        let is : path ≡ x = (bytes_eq-Decides path x).0 same in
        let here : p x ≡ true = rw (← is) passes in
        rw (here, same) refl
    by_same false other h rest = by_test (p x)
      where
        by_test : (b : Bool) → has_path (cond b (x ∷ filter p xs) (filter p xs)) path ≡ true
        by_test true = rw other (rest h)
        by_test false = rest h

has_beginning : (folder path : List ℕ) (n : ℕ) → take (length folder) path ≡ folder → length folder ≤ length path → n < length folder
    → has_path (drop n (beginnings path)) folder ≡ true
has_beginning folder path n front within longer =
    any_at (λ p. bytes_eq folder p) (drop n (beginnings path)) (length folder - suc n) [] (omega (
      arith,
      beginnings-length path,
      length-drop n (beginnings path),
    )) (rw there ((bytes_eq-Decides folder folder).1 refl))
  where
    sum : n + (length folder - suc n) < length path
    sum = omega arith

    size : suc (n + (length folder - suc n)) ≡ length folder
    size = omega arith

    there : get_or (drop n (beginnings path)) (length folder - suc n) [] ≡ folder
    there = get_or-drop n (beginnings path) (length folder - suc n) [] ∙ beginnings_at path (n + (length folder - suc n)) [] sum
        ∙ ap (λ k. take k path) size ∙ front

-- the folders of a walk: those that its first song opens, and those behind it
has_parted : (place : Place) (folder : List ℕ) (n : ℕ) (row : Row) (rows : List Row)
    → has_path (folders_among (walk_from place n (row ∷ rows))) folder
    ≡ (has_path (opened place n (row ∷ rows)) folder || has_path (folders_among (walk_from place (shared row.uri rows) rows)) folder)
has_parted place folder n row rows = ap (λ fs. has_path fs folder) (folders_behind (opened place n (row ∷ rows)) (SongOf row ∷
    walk_from place (shared row.uri rows) rows)) ∙ has-append folder (opened place n (row ∷ rows)) (folders_among (walk_from place
    (shared row.uri rows) rows))

-- the first path doesn't begin so, and what it shares with the next one is shorter
begins_else : (folder : List ℕ) (row : Row) → bytes_eq (take (length folder) row.uri) folder ≡ false → is_below folder row.uri ≡ false
begins_else folder row h = by_length (cases_lt (length folder) (length row.uri))
  where
    by_length : (length folder < length row.uri) ⊎ (length row.uri ≤ length folder) → is_below folder row.uri ≡ false
    by_length (inl long) = below_long folder row.uri long ∙ rw h refl
    by_length (inr short) = below_short folder row.uri short

shares_less : (folder : List ℕ) (row next : Row) (more : List Row) → bytes_eq (take (length folder) row.uri) folder ≡ false
    → bytes_eq (take (length folder) next.uri) folder ≡ true → shared row.uri (next ∷ more) < length folder
shares_less folder row next more other begun = by_length (cases_lt (shared row.uri (next ∷ more)) (length folder))
  where
    by_length : (shared row.uri (next ∷ more) < length folder) ⊎ (length folder ≤ shared row.uri (next ∷ more))
        → shared row.uri (next ∷ more) < length folder
    by_length (inl less) = less
    by_length (inr whole) =
        let same : take (length folder) row.uri ≡ take (length folder) next.uri = shared_beginning (length folder) row.uri next.uri
        whole in
        let front : bytes_eq (take (length folder) row.uri) folder ≡ true = rw same begun in
        absurd (cc)

-- it isn't among the n shortest beginnings of the first path
abbrev IsNew : List ℕ → ℕ → List Row → Type 0
IsNew folder n [] = ⊤
IsNew folder n (row ∷ rows) = bytes_eq (take (length folder) row.uri) folder ≡ true → n < length folder

still_new : (folder : List ℕ) (row : Row) (rows : List Row) → bytes_eq (take (length folder) row.uri) folder ≡ false
    → IsNew folder (shared row.uri rows) rows
still_new folder row [] other = tt
still_new folder row (next ∷ more) other = shares_less folder row next more other

comes_first : (place : Place) (folder : List ℕ) (n : ℕ) (row : Row) (rows : List Row)
    → is_folder_under place (row ∷ rows) folder ≡ true → bytes_eq (take (length folder) row.uri) folder ≡ true → n < length folder
    → has_path (opened place n (row ∷ rows)) folder ≡ true
comes_first place folder n row rows passes h new =
    let front : take (length folder) row.uri ≡ folder = (bytes_eq-Decides (take (length folder) row.uri) folder).0 h in
    let long : length folder ≤ length row.uri = omega (arith, ap length front, length-take (length folder) row.uri) in
    filtered_too (is_folder_under place (row ∷ rows)) folder (drop n (beginnings row.uri)) passes (has_beginning folder row.uri n front
    long new)

comes : (place : Place) (folder : List ℕ) (n : ℕ) (rows : List Row) → is_under place folder ≡ true
    → list_any (λ r. is_below folder r.uri) rows ≡ true → IsNew folder n rows
    → has_path (folders_among (walk_from place n rows)) folder ≡ true
comes place folder n [] under below new = absurd (cc)
comes place folder n (row ∷ rows) under below new =
    has_parted place folder n row rows ∙ by_front (bytes_eq (take (length folder) row.uri) folder) refl (comes place folder (shared
    row.uri rows) rows under)
  where
    passes : is_folder_under place (row ∷ rows) folder ≡ true
    passes = rw (under, below) refl

    or_else : (a b : Bool) → b ≡ true → (a || b) ≡ true
    or_else true b h = refl
    or_else false b h = h

    by_front : (b : Bool) → bytes_eq (take (length folder) row.uri) folder ≡ b
        → (list_any (λ r. is_below folder r.uri) rows ≡ true → IsNew folder (shared row.uri rows) rows
        → has_path (folders_among (walk_from place (shared row.uri rows) rows)) folder ≡ true)
        → (has_path (opened place n (row ∷ rows)) folder || has_path (folders_among (walk_from place (shared row.uri rows) rows))
        folder) ≡ true
    by_front true h rest = rw (comes_first place folder n row rows passes h (new h)) refl
    by_front false h rest = or_else (has_path (opened place n (row ∷ rows)) folder) (has_path (folders_among (walk_from place (shared
        row.uri rows) rows)) folder) (rest (rw (begins_else folder row h) at below) (still_new folder row rows h))

-- a folder that comes is under the place, and a song stands below it
stands : (place : Place) (folder : List ℕ) (n : ℕ) (rows : List Row) → has_path (folders_among (walk_from place n rows)) folder ≡ true
    → is_folder_under place rows folder ≡ true
stands place folder n [] h = absurd (cc)
stands place folder n (row ∷ rows) h = by_opened (has_path (opened place n (row ∷ rows)) folder) refl (sym (has_parted place folder n
    row rows) ∙ h) (stands place folder (shared row.uri rows) rows)
  where
    also : (a b c : Bool) → (a && b) ≡ true → (a && (c || b)) ≡ true
    also true true true h = refl
    also true true false h = refl
    also true false c h = absurd (cc)
    also false b c h = absurd (cc)

    by_opened : (a : Bool) → has_path (opened place n (row ∷ rows)) folder ≡ a
        → (a || has_path (folders_among (walk_from place (shared row.uri rows) rows)) folder) ≡ true
        → (has_path (folders_among (walk_from place (shared row.uri rows) rows)) folder ≡ true → is_folder_under place rows folder ≡ true)
        → is_folder_under place (row ∷ rows) folder ≡ true
    by_opened true is h rest = filtered_only (is_folder_under place (row ∷ rows)) folder (drop n (beginnings row.uri)) is
    by_opened false is h rest = also (is_under place folder) (list_any (λ r. is_below folder r.uri) rows) (is_below folder row.uri)
        (rest h)

new_at_first : (b : ℕ) (path : List ℕ) (rows : List Row) → IsNew (b ∷ path) 0 rows
new_at_first b path [] = tt
new_at_first b path (row ∷ rows) = λ begun. omega arith

folders_of_walk : (place : Place) (b : ℕ) (path : List ℕ) (rows : List Row)
    → has_path (folders_among (walk_from place 0 rows)) (b ∷ path) ≡ is_folder_under place rows (b ∷ path)
folders_of_walk place b path rows = by_tests (has_path (folders_among (walk_from place 0 rows)) (b ∷ path)) refl (is_folder_under
    place rows (b ∷ path)) refl
  where
    left : (x y : Bool) → (x && y) ≡ true → x ≡ true
    left true y h = refl
    left false y h = absurd (cc)

    right : (x y : Bool) → (x && y) ≡ true → y ≡ true
    right true y h = h
    right false y h = absurd (cc)

    by_tests : (x : Bool) → has_path (folders_among (walk_from place 0 rows)) (b ∷ path) ≡ x
        → (y : Bool) → is_folder_under place rows (b ∷ path) ≡ y → x ≡ y
    by_tests true h true k = refl
    by_tests false h false k = refl
    by_tests true h false k = sym (stands place (b ∷ path) 0 rows h) ∙ k
    by_tests false h true k = sym h ∙ comes place (b ∷ path) 0 rows (left (is_under place (b ∷ path)) (list_any (λ r. is_below (b ∷
        path) r.uri) rows) k) (right (is_under place (b ∷ path)) (list_any (λ r. is_below (b ∷ path) r.uri) rows) k)
        (new_at_first b path rows)

pub is_walk : (place : Place) (rows : List Row) → IsRising row_uri (rows_under rows place) → IsWalk rows place (walk_of rows place)
is_walk place rows rising = record {
  songs = songs_of_walk place 0 (rows_under rows place);
  folders = λ b path. folders_of_walk place b path (rows_under rows place);
  order = walk_rises place 0 (rows_under rows place) rising;
}
