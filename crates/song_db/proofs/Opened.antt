-- Which beginnings of a path are folders.
use Rattle.std.proofs.Common.{◌≡◌, ◌⊎◌, inl, inr, ℕ, zero, suc, ◌<◌, ◌≤◌, Bool, true, false, not, ◌&&◌, ◌||◌, List, [], ◌∷◌, ◌++◌}
use Rattle.std.proofs.Common.{length, take, drop, get_or, nat_eq, nat_lt, cond, refl, sym, ap, subst, ◌∙◌, arith, length-take}
use Rattle.std.proofs.lemmas.Bool.{cases_lt}
use Rattle.std.proofs.lemmas.Bool.Decides.{nat_tests}
use Rattle.std.proofs.lemmas.List.{take-append-drop}
use Rattle.std.specs.Prelude.{Option, Some, None, option_to_list, if◌then◌else◌}
use Rattle.std.specs.List.{list_any}
use Rattle.std.specs.List.Sorted.{IsPartitionPoint, IsStrictlySortedBy}
use Rattle.std.specs.Str.{bytes_eq}
use Rattle.std.specs.declared.cmp.Ordering.TheVariants.{Less, Equal, Greater}
use Rattle.std.specs.Ordering.{is_lt, ordering_then}
use Rattle.song_db.specs.declared.place.Place.{Place}
use Rattle.song_db.specs.Place.{is_below}
use Rattle.song_db.specs.Replaced.{IsRising, IsBefore, IsNotBefore}
use Rattle.song_db.specs.Row.{Row, row_uri}
use Rattle.song_db.specs.Walk.{shared, opened, is_folder_under}
use Rattle.song_db.proofs.Beginnings.{next_beginning, no_beginning, passed}
use Rattle.song_db.proofs.Below.{and_false, below_short, below_long, below-bytes}
use Rattle.song_db.proofs.BelowOrder.{below_order}
use Rattle.song_db.proofs.FolderRuns.{Begins, begins}
use Rattle.song_db.proofs.Rising.{texts, partitioned, no_row}
use Rattle.song_db.proofs.Slashes.{begins_cut}

pub any_none : {X : Type 0} (p : X → Bool) (xs : List X) (d : X) → ((k : ℕ) → k < length xs → p (get_or xs k d) ≡ false)
    → list_any p xs ≡ false
any_none p [] d none = refl
any_none p (x ∷ xs) d none = rw (none 0 (omega arith)) (any_none p xs d (λ k within. none (suc k) (omega arith)))

pub any_at : {X : Type 0} (p : X → Bool) (xs : List X) (k : ℕ) (d : X) → k < length xs → p (get_or xs k d) ≡ true
    → list_any p xs ≡ true
any_at p [] k d within at = absurd (omega arith)
any_at p (x ∷ xs) zero d within at = rw at refl
any_at {X} p (x ∷ xs) (suc k) d within at = by_test (p x) (any_at p xs k d (omega arith) at)
  where
    by_test : (b : Bool) → list_any p xs ≡ true → (b || list_any p xs) ≡ true
    by_test true rest = refl
    by_test false rest = rest

-- behind the folder and its next byte, nothing is below it
behind_all : (rows : List Row) (folder : List ℕ) (s : ℕ) → IsRising row_uri rows → s < length rows
    → is_lt (texts (get_or rows s no_row).uri (folder ++ 48 ∷ [])) ≡ false
    → (k : ℕ) → s ≤ k → k < length rows → is_below folder (get_or rows k no_row).uri ≡ false
behind_all rows folder s rising start late k from within =
    rw (below_order folder (get_or rows k no_row).uri, later (is_lt (texts (get_or rows k no_row).uri (folder ++ 48 ∷ []))) refl)
    (and_false (not (is_lt (texts (get_or rows k no_row).uri (folder ++ 47 ∷ [])))))
  where
    later : (b : Bool) → is_lt (texts (get_or rows k no_row).uri (folder ++ 48 ∷ [])) ≡ b → b ≡ false
    later false h = refl
    later true h =
        let early : is_lt (texts (get_or rows s no_row).uri (folder ++ 48 ∷ [])) ≡ true = partitioned row_uri rows (folder ++ 48 ∷
        []) rising s k no_row from within h in
        absurd (cc)

right : (a b : Bool) → (not a && b) ≡ false → a ≡ false → b ≡ false
right true b h low = absurd (cc)
right false b h low = h

-- where the first row from the folder and a slash on isn't below it, none is
pub none_from : (rows : List Row) (folder : List ℕ) (s : ℕ) → IsRising row_uri rows
    → IsPartitionPoint (IsBefore row_uri (folder ++ 47 ∷ [])) (IsNotBefore row_uri (folder ++ 47 ∷ [])) rows s
    → (s < length rows → is_below folder (get_or rows s no_row).uri ≡ false)
    → list_any (λ row. is_below folder row.uri) rows ≡ false
none_from rows folder s rising split first = any_none (λ row. is_below folder row.uri) rows no_row each
  where
    each : (k : ℕ) → k < length rows → is_below folder (get_or rows k no_row).uri ≡ false
    each k within = by_cases (cases_lt k s)
      where
        by_cases : (k < s) ⊎ (s ≤ k) → is_below folder (get_or rows k no_row).uri ≡ false
        by_cases (inl before) = rw (below_order folder (get_or rows k no_row).uri, split.0 k no_row (omega arith) before) refl
        by_cases (inr from) =
            let start : s < length rows = omega arith in
            let low : is_lt (texts (get_or rows s no_row).uri (folder ++ 47 ∷ [])) ≡ false = split.1 s no_row (omega arith) start in
            let here = sym (below_order folder (get_or rows s no_row).uri) ∙ first start in
            behind_all rows folder s rising start (right (is_lt (texts (get_or rows s no_row).uri (folder ++ 47 ∷ []))) (is_lt
            (texts (get_or rows s no_row).uri (folder ++ 48 ∷ []))) here low) k from within

-- where the path goes on without a slash, it isn't below what it begins with
pub not_itself : (path : List ℕ) (n : ℕ) → n ≤ length path → (n < length path → nat_eq (get_or path n 0) 47 ≡ false)
    → is_below (take n path) path ≡ false
not_itself path n within other = by_cases (cases_lt n (length path))
  where
    size : length (take n path) ≡ n
    size = omega (arith, length-take n path)

    by_cases : (n < length path) ⊎ (length path ≤ n) → is_below (take n path) path ≡ false
    by_cases (inl long) =
        let longer : length (take n path) < length path = omega (arith, size) in
        below_long (take n path) path longer ∙ (let no : nat_eq (get_or path (length (take n path)) 0) 47 ≡ false = rw size (other
        long) in rw no (and_false (bytes_eq (take (length (take n path)) path) (take n path))))
    by_cases (inr whole) = below_short (take n path) path (let s : length (take n path) ≡ n = size in omega arith)

-- where the path goes on with a slash, it is
pub itself : (path : List ℕ) (n : ℕ) → n < length path → get_or path n 0 ≡ 47 → is_below (take n path) path ≡ true
itself path n within slash = below-bytes (take n path) path ∙ begins_cut path n within slash

-- where the next path doesn't begin so, none behind it is below
pub none_behind : (row : Row) (rows : List Row) (n : ℕ) → IsRising row_uri (row ∷ rows) → n ≤ length row.uri
    → shared row.uri rows < n → list_any (λ r. is_below (take n row.uri) r.uri) rows ≡ false
unfolding IsStrictlySortedBy
none_behind row [] n rising within short = refl
none_behind row (next ∷ rows) n rising within short =
    any_none (λ r. is_below (take n row.uri) r.uri) (next ∷ rows) no_row (λ k inside. behind_all (next ∷ rows) (take n row.uri) 0
    rising.1 (omega arith) late k (omega arith) inside)
  where
    whole : take n row.uri ++ drop n row.uri ≡ row.uri
    whole = take-append-drop n row.uri

    late : is_lt (texts next.uri (take n row.uri ++ 48 ∷ [])) ≡ false
    late = passed (take n row.uri) (drop n row.uri) next.uri (rw whole rising.0.0) (rw whole (omega (arith, length-take n row.uri)))

past_slash : (path : List ℕ) (n : ℕ) → n < length path → 47 < get_or path n 0 → is_lt (texts path (take n path ++ 48 ∷ [])) ≡ false
past_slash [] n within past = absurd (omega arith)
past_slash (x ∷ xs) zero within past = by_cases (nat_lt x 48) refl (nat_eq x 48) refl xs
  where
    by_cases : (a : Bool) → nat_lt x 48 ≡ a → (b : Bool) → nat_eq x 48 ≡ b → (xs : List ℕ)
        → is_lt (ordering_then (cond a Less (cond b Equal Greater)) (texts xs [])) ≡ false
    by_cases true g b h xs = absurd (grind (arith, nat_tests))
    by_cases false g true h [] = refl
    by_cases false g true h (y ∷ ys) = refl
    by_cases false g false h xs = refl
past_slash (x ∷ xs) (suc n) within past =
    let less : nat_lt x x ≡ false = grind (arith, nat_tests) in
    let same : nat_eq x x ≡ true = grind (arith, nat_tests) in
    rw (less, same) (past_slash xs n (omega arith) past)

-- where the path goes on with a byte behind a slash, nothing from there on is below what it begins with
pub none_past : (row : Row) (rows : List Row) (n : ℕ) → IsRising row_uri (row ∷ rows) → n < length row.uri → 47 < get_or row.uri n 0
    → list_any (λ r. is_below (take n row.uri) r.uri) (row ∷ rows) ≡ false
none_past row rows n rising within past = any_none (λ r. is_below (take n row.uri) r.uri) (row ∷ rows) no_row (λ k inside. behind_all
    (row ∷ rows) (take n row.uri) 0 rising (omega arith) (past_slash row.uri n within past) k (omega arith) inside)

-- the text of a folder, read from a path below it
pub text_below : (folder path : List ℕ) → is_below folder path ≡ true → Begins folder path
text_below folder path below = begins folder path (sym (below-bytes folder path) ∙ below)

-- the next beginning is a folder, or it isn't, or there is none
opened_yes : (place : Place) (n : ℕ) (row : Row) (rows : List Row) → n < length row.uri
    → is_folder_under place (row ∷ rows) (take (suc n) row.uri) ≡ true
    → opened place n (row ∷ rows) ≡ take (suc n) row.uri ∷ opened place (suc n) (row ∷ rows)
opened_yes place n row rows within is = rw (next_beginning n row.uri within, is) refl

opened_no : (place : Place) (n : ℕ) (row : Row) (rows : List Row) → n < length row.uri
    → is_folder_under place (row ∷ rows) (take (suc n) row.uri) ≡ false → opened place n (row ∷ rows) ≡ opened place (suc n) (row ∷ rows)
opened_no place n row rows within is = rw (next_beginning n row.uri within, is) refl

pub opened_end : (place : Place) (n : ℕ) (row : Row) (rows : List Row) → length row.uri ≤ n → opened place n (row ∷ rows) ≡ []
opened_end place n row rows past = rw (no_beginning n row.uri past) refl

opened_after : (place : Place) (n : ℕ) (row : Row) (rows : List Row) (told : Option (List ℕ)) → n < length row.uri
    → told ≡ (if is_folder_under place (row ∷ rows) (take (suc n) row.uri) then Some (take (suc n) row.uri) else None)
    → opened place n (row ∷ rows) ≡ option_to_list told ++ opened place (suc n) (row ∷ rows)
opened_after place n row rows told within is = by_test (is_folder_under place (row ∷ rows) (take (suc n) row.uri)) refl is
  where
    by_test : (b : Bool) → is_folder_under place (row ∷ rows) (take (suc n) row.uri) ≡ b
        → told ≡ (if b then Some (take (suc n) row.uri) else None)
        → opened place n (row ∷ rows) ≡ option_to_list told ++ opened place (suc n) (row ∷ rows)
    by_test true h is = opened_yes place n row rows within h ∙ ap (λ (o : Option (List ℕ)). option_to_list o ++ opened place (suc n)
        (row ∷ rows)) (sym is)
    by_test false h is = opened_no place n row rows within h ∙ ap (λ (o : Option (List ℕ)). option_to_list o ++ opened place (suc n)
        (row ∷ rows)) (sym is)

-- what was told of the next beginning comes next
pub opened_next : (place : Place) (n : ℕ) (row : Row) (rows : List Row) (m : ℕ) → suc n ≡ m → (told : Option (List ℕ))
    → n < length row.uri → told ≡ (if is_folder_under place (row ∷ rows) (take m row.uri) then Some (take m row.uri) else None)
    → opened place n (row ∷ rows) ≡ option_to_list told ++ opened place m (row ∷ rows)
opened_next place n row rows m after told within =
    subst (λ (k : ℕ). told ≡ (if is_folder_under place (row ∷ rows) (take k row.uri) then Some (take k row.uri) else None)
    → opened place n (row ∷ rows) ≡ option_to_list told ++ opened place k (row ∷ rows)) after (opened_after place n row rows told within)

-- a path is below what it begins with where it goes on with a slash
pub part_ends : (path : List ℕ) (n : ℕ) → n < length path → is_below (take n path) path ≡ nat_eq (get_or path n 0) 47
part_ends path n within = by_slash (nat_eq (get_or path n 0) 47) refl
  where
    by_slash : (b : Bool) → nat_eq (get_or path n 0) 47 ≡ b → is_below (take n path) path ≡ b
    by_slash true h = itself path n within (grind (arith, nat_tests))
    by_slash false h = not_itself path n (omega arith) (λ _. h)

pub whole_path : (path : List ℕ) (n : ℕ) → n ≡ length path → is_below (take n path) path ≡ false
whole_path path n is = not_itself path n (omega arith) (λ under. absurd (omega arith))
