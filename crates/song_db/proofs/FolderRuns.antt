-- The rows below a folder all stand in it, so that a search may pass them by.
use Rattle.std.proofs.Common.{◌≡◌, ◌⊎◌, inl, inr, ℕ, zero, suc, ◌+◌, ◌-◌, ◌<◌, ◌≤◌, ◌==◌, Bool, true, false, ◌&&◌, not}
use Rattle.std.proofs.Common.{List, [], ◌∷◌, ◌++◌, length, take, drop, get_or, nat_eq, nat_lt, Some, None}
use Rattle.std.proofs.Common.{filter, refl, sym, ap, ◌∙◌, arith, length-take, length-drop}
use Rattle.std.specs.Prelude.{Option, option_map}
use Rattle.std.specs.List.{position, position_or_len, filter_map}
use Rattle.std.specs.List.Sorted.{IsPartitionPoint}
use Rattle.std.specs.declared.cmp.Ordering.{Ordering}
use Rattle.std.specs.declared.cmp.Ordering.TheVariants.{Less, Equal, Greater}
use Rattle.std.specs.Cmp.Lexicographic.{nat_list_cmp_total}
use Rattle.std.specs.Ordering.{is_lt, match_ordering}
use Rattle.std.proofs.lemmas.Bool.{cases_lt}
use Rattle.std.proofs.lemmas.Bool.Decides.{nat_tests}
use Rattle.std.proofs.lemmas.Cmp.{tied_itself}
use Rattle.std.proofs.lemmas.List.{drop_more, get_or-drop, get_or-take, get_or_default}
use Rattle.std.proofs.lemmas.List.Quantifiers.{position-Some}
use Rattle.std.proofs.lemmas.List.Sums.{position_or_len_is}
use Rattle.song_db.specs.declared.place.Place.{Place}
use Rattle.song_db.specs.Place.{is_below}
use Rattle.song_db.specs.Query.{skipped, folder_of, is_right_in, with_texts}
use Rattle.song_db.specs.Replaced.{IsRising, replaced, IsBefore, IsNotBefore}
use Rattle.song_db.specs.Row.{Row, row_uri}
use Rattle.song_db.proofs.Below.{begins_below, below-bytes}
use Rattle.song_db.proofs.BelowOrder.{below_order}
use Rattle.song_db.proofs.Rising.{texts, partitioned, no_row}

-- the folder stands in front, and a slash behind it
pub record Begins (folder path : List ℕ) : Type 0 where
  pub within : length folder < length path
  pub front : take (length folder) path ≡ folder
  pub slash : get_or path (length folder) 0 ≡ 47

pub begins : (folder path : List ℕ) → begins_below folder path ≡ true → Begins folder path
begins [] [] h = absurd (cc)
begins [] (y ∷ ys) h = record { within = omega arith; front = refl; slash = grind (arith, nat_tests) }
begins (x ∷ xs) [] h = absurd (cc)
begins (x ∷ xs) (y ∷ ys) h = by_cases (nat_eq x y) refl h (begins xs ys)
  where
    by_cases : (b : Bool) → nat_eq x y ≡ b → (b && begins_below xs ys) ≡ true → (begins_below xs ys ≡ true → Begins xs ys)
        → Begins (x ∷ xs) (y ∷ ys)
    by_cases true same rest more =
        let inner = more rest in
        let equal : y ≡ x = grind (arith, nat_tests) in
        record { within = omega (arith, inner.within); front = rw (equal, inner.front) refl; slash = inner.slash }
    by_cases false other rest more = absurd (cc)

first_slash : (path : List ℕ) (n : ℕ) → n < length path → get_or path n 0 ≡ 47 → ((k : ℕ) → k < n
    → nat_eq (get_or path k 0) 47 ≡ false) → position (λ b. b == 47) path ≡ Some n
first_slash path n within slash none =
    let at : position_or_len (λ b. b == 47) path ≡ n = position_or_len_is (λ b. b == 47) path n 0 (omega arith) none (λ _. rw slash refl) in
    let inside : nat_lt n (length path) ≡ true = grind (arith, nat_tests) in
    rw (at, inside) refl

-- what stands below a folder right in a place stands in that folder
pub same_folder : (place : Place) (path other folder : List ℕ) → folder_of place path ≡ Some folder
    → is_below folder other ≡ true → folder_of place other ≡ Some folder
same_folder place path other folder is below = by_position (position (λ b. b == 47) (drop (skipped place) path)) refl is
  where
    by_position : (found : Option ℕ) → position (λ b. b == 47) (drop (skipped place) path) ≡ found
        → option_map (λ n. take (skipped place + n) path) found ≡ Some folder → folder_of place other ≡ Some folder
    by_position None at h = absurd (cc)
    by_position (Some n) at h =
        let skip = skipped place in
        let found = position-Some (λ b. b == 47) (drop skip path) n 0 at in
        let inside : n < length (drop skip path) = found.0 in
        let cut : take (skip + n) path ≡ folder = cc in
        let size : length folder ≡ skip + n = omega (arith, ap length cut, length-take (skip + n) path, length-drop skip path) in
        let start = begins folder other (sym (below-bytes folder other) ∙ below) in
        let whole : take (skip + n) other ≡ folder = rw size at start.front in
        let slash : get_or (drop skip other) n 0 ≡ 47 = get_or-drop skip other n 0 ∙ rw size at start.slash in
        let room : n < length (drop skip other) = omega (arith, start.within, length-drop skip other) in
        rw (first_slash (drop skip other) n room slash (λ k low.
        let here : get_or (drop skip other) k 0 ≡ get_or (drop skip path) k 0 =
        get_or-drop skip other k 0 ∙ sym (get_or-take (skip + n) other (skip + k) 0 (omega arith))
        ∙ ap (λ text. get_or text (skip + k) 0) (whole ∙ sym cut) ∙ get_or-take (skip + n) path (skip + k) 0 (omega arith)
        ∙ sym (get_or-drop skip path k 0) in
        rw here (found.2 k low))) (ap Some whole)

-- a text that was taken is there
pub taken_again : (text : List ℕ) (known : List (List ℕ))
    → replaced (λ t. t) text (text ∷ []) (replaced (λ t. t) text (text ∷ []) known) ≡ replaced (λ t. t) text (text ∷ []) known
taken_again text [] = rw (tied_itself nat_list_cmp_total text) refl
taken_again text (x ∷ xs) = by_cases (texts text x) refl (taken_again text xs)
  where
    by_cases : (o : Ordering) → texts text x ≡ o
        → replaced (λ t. t) text (text ∷ []) (replaced (λ t. t) text (text ∷ []) xs) ≡ replaced (λ t. t) text (text ∷ []) xs
        → replaced (λ t. t) text (text ∷ []) (match_ordering o (text ∷ x ∷ xs) (text ∷ xs) (x ∷ replaced (λ t. t) text (text ∷ [])
        xs)) ≡ match_ordering o (text ∷ x ∷ xs) (text ∷ xs) (x ∷ replaced (λ t. t) text (text ∷ []) xs)
    by_cases Less h rest = rw (tied_itself nat_list_cmp_total text) refl
    by_cases Equal h rest = rw (tied_itself nat_list_cmp_total text) refl
    by_cases Greater h rest = rw h (ap (λ l. x ∷ l) rest)

-- a run of rows in one folder adds nothing to it
run_adds_nothing : (place : Place) (rows : List Row) (known : List (List ℕ)) (folder : List ℕ) (n s : ℕ) → s + n ≤ length rows
    → replaced (λ t. t) folder (folder ∷ []) known ≡ known
    → ((k : ℕ) → s ≤ k → k < s + n → folder_of place (get_or rows k no_row).uri ≡ Some folder)
    → with_texts known (filter_map (λ row. folder_of place row.uri) (drop s rows)) ≡ with_texts known (filter_map (λ row. folder_of
    place row.uri) (drop (s + n) rows))
run_adds_nothing place rows known folder zero s within there each = let same : s + 0 ≡ s = omega arith in rw same refl
run_adds_nothing place rows known folder (suc n) s within there each =
    let here : folder_of place (get_or rows s no_row).uri ≡ Some folder = each s (omega arith) (omega arith) in
    let sum : s + suc n ≡ (s + 1) + n = omega arith in
    let one : with_texts known (filter_map (λ row. folder_of place row.uri) (drop s rows)) ≡ with_texts (replaced (λ t. t) folder
    (folder ∷ []) known) (filter_map (λ row. folder_of place row.uri) (drop (s + 1) rows)) = rw (
      drop_more rows s no_row (omega
          arith),
      here,
    ) refl in
    let two = ap (λ (l : List (List ℕ)). with_texts l (filter_map (λ row. folder_of place row.uri) (drop (s + 1) rows))) there in
    rw sum (one ∙ two ∙ run_adds_nothing place rows known folder n (s + 1) (omega arith) there (λ k low high. each k (omega arith)
    (omega arith)))

first : (a b : Bool) → (not a && b) ≡ true → a ≡ false
first true b h = absurd (cc)
first false b h = refl

second : (a b : Bool) → (not a && b) ≡ true → b ≡ true
second true b h = absurd (cc)
second false b h = h

-- after a row in a folder come the others of that folder
pub run_folder : (place : Place) (rows : List Row) (folder : List ℕ) (at end : ℕ) (row : Row) → IsRising row_uri rows
    → at < length rows → end ≤ length rows
    → row ≡ get_or rows at row → Some folder ≡ folder_of place row.uri → is_below folder row.uri ≡ true
    → IsPartitionPoint (IsBefore row_uri (folder ++ 48 ∷ [])) (IsNotBefore row_uri (folder ++ 48 ∷ [])) rows end
    → (at < end) × ((k : ℕ) → at ≤ k → k < end → folder_of place (get_or rows k no_row).uri ≡ Some folder)
run_folder place rows folder at end row rising within bound is found below split = (above, each)
  where
    -- the row itself is before the end
    row_early : is_lt (texts row.uri (folder ++ 48 ∷ [])) ≡ true
    row_early = second (is_lt (texts row.uri (folder ++ 47 ∷ []))) (is_lt (texts row.uri (folder ++ 48 ∷ []))) (sym (below_order
        folder row.uri) ∙ below)

    row_late : is_lt (texts row.uri (folder ++ 47 ∷ [])) ≡ false
    row_late = first (is_lt (texts row.uri (folder ++ 47 ∷ []))) (is_lt (texts row.uri (folder ++ 48 ∷ []))) (sym (below_order
        folder row.uri) ∙ below)

    stands : get_or rows at no_row ≡ row
    stands = get_or_default rows at no_row row within ∙ sym is

    above : at < end
    above = by_cases (cases_lt at end)
      where
        by_cases : (at < end) ⊎ (end ≤ at) → at < end
        by_cases (inl less) = less
        by_cases (inr past) =
            let late : is_lt (texts (get_or rows at no_row).uri (folder ++ 48 ∷ [])) ≡ false = split.1 at no_row past within in
            let early : is_lt (texts (get_or rows at no_row).uri (folder ++ 48 ∷ [])) ≡ true = rw stands row_early in
            absurd (cc)

    each : (k : ℕ) → at ≤ k → k < end → folder_of place (get_or rows k no_row).uri ≡ Some folder
    each k low high = same_folder place row.uri (get_or rows k no_row).uri folder (sym found) (rw (
      below_order folder (get_or rows
          k no_row).uri,
      behind,
      before,
    ) refl)
      where
        before : is_lt (texts (get_or rows k no_row).uri (folder ++ 48 ∷ [])) ≡ true
        before = split.0 k no_row (omega arith) high

        behind : is_lt (texts (get_or rows k no_row).uri (folder ++ 47 ∷ [])) ≡ false
        behind = by_test (is_lt (texts (get_or rows k no_row).uri (folder ++ 47 ∷ []))) refl
          where
            by_test : (b : Bool) → is_lt (texts (get_or rows k no_row).uri (folder ++ 47 ∷ [])) ≡ b → b ≡ false
            by_test true told =
                let early : is_lt (texts (get_or rows at no_row).uri (folder ++ 47 ∷ [])) ≡ true = partitioned row_uri rows (folder
                ++ 47 ∷ []) rising at k no_row low (omega arith) told in
                let late : is_lt (texts (get_or rows at no_row).uri (folder ++ 47 ∷ [])) ≡ false = rw stands row_late in
                absurd (cc)
            by_test false told = refl

-- after a row in a folder come the others of that folder, and then the rest
pub run_taken : (place : Place) (rows : List Row) (known total : List (List ℕ)) (folder : List ℕ) (at end : ℕ) (row : Row)
    → IsRising row_uri rows → at < length rows → end ≤ length rows
    → row ≡ get_or rows at row → Some folder ≡ folder_of place row.uri → is_below folder row.uri ≡ true
    → IsPartitionPoint (IsBefore row_uri (folder ++ 48 ∷ [])) (IsNotBefore row_uri (folder ++ 48 ∷ [])) rows end
    → with_texts known (filter_map (λ row. folder_of place row.uri) (drop at rows)) ≡ total
    → (at < end) × (with_texts (replaced (λ t. t) folder (folder ∷ []) known) (filter_map (λ row. folder_of place row.uri) (drop
    end rows)) ≡ total)
run_taken place rows known total folder at end row rising within bound is found below split told = (run.0, joined)
  where
    run : (at < end) × ((k : ℕ) → at ≤ k → k < end → folder_of place (get_or rows k no_row).uri ≡ Some folder)
    run = run_folder place rows folder at end row rising within bound is found below split

    step : with_texts known (filter_map (λ row. folder_of place row.uri) (drop at rows)) ≡ with_texts (replaced (λ t. t) folder
        (folder ∷ []) known) (filter_map (λ row. folder_of place row.uri) (drop (at + 1) rows))
    step = rw (drop_more rows at no_row within, run.1 at (omega arith) run.0) refl

    rest : with_texts (replaced (λ t. t) folder (folder ∷ []) known) (filter_map (λ row. folder_of place row.uri) (drop (at + 1)
        rows)) ≡ with_texts (replaced (λ t. t) folder (folder ∷ []) known) (filter_map (λ row. folder_of place row.uri) (drop end rows))
    rest =
        let sum : end ≡ (at + 1) + (end - (at + 1)) = let a : at < end = run.0 in omega arith in
        let passed = run_adds_nothing place rows (replaced (λ t. t) folder (folder ∷ []) known) folder (end - (at + 1)) (at + 1)
        (let a : at < end = run.0 in omega arith) (taken_again folder known) (λ k low high. run.1 k (omega arith) (let a : at <
        end = run.0 in omega arith)) in
        rw (← sum) at passed

    joined : with_texts (replaced (λ t. t) folder (folder ∷ []) known) (filter_map (λ row. folder_of place row.uri) (drop end rows)) ≡ total
    joined = sym rest ∙ sym step ∙ told

-- the rows of a folder that a test refuses are none of those that it picks
picks_nothing : (p : Row → Bool) (rows : List Row) (n s : ℕ) → s + n ≤ length rows → ((k : ℕ) → s ≤ k → k < s + n
    → p (get_or rows k no_row) ≡ false) → filter p (drop s rows) ≡ filter p (drop (s + n) rows)
picks_nothing p rows zero s within each = let same : s + 0 ≡ s = omega arith in rw same refl
picks_nothing p rows (suc n) s within each =
    let here : p (get_or rows s no_row) ≡ false = each s (omega arith) (omega arith) in
    let sum : s + suc n ≡ (s + 1) + n = omega arith in
    rw (drop_more rows s no_row (omega arith), here, sum) (picks_nothing p rows n (s + 1) (omega arith) (λ k low high. each k
    (omega arith) (omega arith)))

pub run_passed : (place : Place) (rows : List Row) (folder : List ℕ) (at end : ℕ) (row : Row) → IsRising row_uri rows
    → at < length rows → end ≤ length rows
    → row ≡ get_or rows at row → Some folder ≡ folder_of place row.uri → is_below folder row.uri ≡ true
    → IsPartitionPoint (IsBefore row_uri (folder ++ 48 ∷ [])) (IsNotBefore row_uri (folder ++ 48 ∷ [])) rows end
    → (at < end) × (filter (λ row. is_right_in place row.uri) (drop at rows) ≡ filter (λ row. is_right_in place row.uri) (drop end rows))
run_passed place rows folder at end row rising within bound is found below split = (run.0, passed)
  where
    run : (at < end) × ((k : ℕ) → at ≤ k → k < end → folder_of place (get_or rows k no_row).uri ≡ Some folder)
    run = run_folder place rows folder at end row rising within bound is found below split

    passed : filter (λ row. is_right_in place row.uri) (drop at rows) ≡ filter (λ row. is_right_in place row.uri) (drop end rows)
    passed =
        let a : at < end = run.0 in
        let sum : at + (end - at) ≡ end = omega arith in
        rw sum at (picks_nothing (λ row. is_right_in place row.uri) rows (end - at) at (omega arith) (λ k low high. rw (run.1 k low
        (omega arith)) refl))
