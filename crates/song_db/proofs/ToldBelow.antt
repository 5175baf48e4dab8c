-- The songs below a folder are told one after the other.
use Rattle.std.proofs.Common.{◌≡◌, ◌⊎◌, inl, inr, ℕ, ◌+◌, ◌-◌, ◌<◌, ◌≤◌, Bool, true, false, not, ◌&&◌, List, [], ◌∷◌, ◌++◌}
use Rattle.std.proofs.Common.{length, take, drop, get_or, nat_eq, filter, refl, sym, ap, ◌∙◌, arith, append_assoc}
use Rattle.std.specs.List.{flat_map, list_any}
use Rattle.std.specs.List.Sorted.{IsPartitionPoint}
use Rattle.std.specs.Ordering.{is_lt, match_ordering, nat_cmp, ordering_then}
use Rattle.std.specs.Str.{bytes_eq}
use Rattle.std.specs.declared.cmp.Ordering.{Ordering}
use Rattle.std.specs.declared.cmp.Ordering.TheVariants.{Less, Equal, Greater}
use Rattle.std.proofs.lemmas.Bool.{cases_lt}
use Rattle.std.proofs.lemmas.Bool.Decides.{nat_tests}
use Rattle.std.proofs.lemmas.Slice.Eq.{bytes_eq-Decides}
use Rattle.song_db.specs.Letters.{text_cmp}
use Rattle.song_db.specs.Place.{goes_on, is_below}
use Rattle.song_db.specs.Replaced.{IsBefore, IsNotBefore, IsRising, replaced}
use Rattle.song_db.specs.Row.{Row, row_uri}
use Rattle.song_db.specs.Told.{folder_key, part_key, path_key, told_key, told_order}
use Rattle.song_db.specs.Uri.{parts}
use Rattle.song_db.proofs.Batches.{length_replaced}
use Rattle.song_db.proofs.Below.{and_false, has_first}
use Rattle.song_db.proofs.BelowOrder.{any-filter, filter_range}
use Rattle.song_db.proofs.LetterKeys.{keys_cmp}
use Rattle.song_db.proofs.Rising.{texts, no_row}
use Rattle.song_db.proofs.ToldKeys.{same_texts, text_itself}
use Rattle.song_db.proofs.ToldOrder.{passing}

-- behind the beginning of the numbers of a folder's songs, and before its end
abbrev pub among : Row → List (List ℕ) → List (List ℕ) → Bool
among row folder path =
    not (is_lt (texts (path_key row path) (flat_map part_key folder ++ [])))
    && is_lt (texts (path_key row path) (flat_map part_key folder ++ 2 ∷ []))

none_left : (fs : List (List ℕ)) → goes_on fs [] ≡ false
none_left [] = refl
none_left (f ∷ fs) = refl

below_parts : (row : Row) (folder : List (List ℕ)) (first : List ℕ) (path : List (List ℕ))
    → goes_on folder (first ∷ path) ≡ among row folder (first ∷ path)
below_parts row [] first [] = refl
below_parts row [] first (p ∷ path) = refl
below_parts row (f ∷ folder) first [] = ap (λ b. bytes_eq f first && b) (none_left folder) ∙ and_false (bytes_eq f first)
below_parts row (f ∷ folder) first (p ∷ path) =
    by_cases (text_cmp first f) refl (below_parts row folder p path)
    ∙ sym (ap (λ b. not (is_lt b) && is_lt (key_end (2 ∷ []))) (parted []) ∙ ap (λ b. not (is_lt (compared [])) && is_lt b) (parted (2 ∷ [])))
  where
    rest : List ℕ
    rest = path_key row (p ∷ path)

    key_end : List ℕ → Ordering
    key_end end = texts (part_key first ++ rest) ((part_key f ++ flat_map part_key folder) ++ end)

    compared : List ℕ → Ordering
    compared end = ordering_then (text_cmp first f) (texts rest (flat_map part_key folder ++ end))

    parted : (end : List ℕ) → key_end end ≡ compared end
    parted end = ap (texts (part_key first ++ rest)) (append_assoc (part_key f) (flat_map part_key folder) end)
        ∙ keys_cmp first f rest (flat_map part_key folder ++ end)

    other : (o : Ordering) → text_cmp first f ≡ o → (o ≡ Equal → ⊥) → bytes_eq f first ≡ false
    other o is apart = by_test (bytes_eq f first) refl
      where
        by_test : (b : Bool) → bytes_eq f first ≡ b → b ≡ false
        by_test true same =
            let equal : f ≡ first = (bytes_eq-Decides f first).0 same in
            absurd (apart (sym is ∙ ap (text_cmp first) equal ∙ text_itself first))
        by_test false same = refl

    by_cases : (o : Ordering) → text_cmp first f ≡ o → goes_on folder (p ∷ path) ≡ among row folder (p ∷ path)
        → (bytes_eq f first && goes_on folder (p ∷ path))
        ≡ (not (is_lt (ordering_then o (texts rest (flat_map part_key folder ++ []))))
        && is_lt (ordering_then o (texts rest (flat_map part_key folder ++ 2 ∷ []))))
    by_cases Less is more = rw (other Less is (λ e. cc)) refl
    by_cases Equal is more = rw ((bytes_eq-Decides f first).1 (sym (same_texts first f is))) more
    by_cases Greater is more = rw (other Greater is (λ e. cc)) refl

pub below_told : (folder : List ℕ) (row : Row) → is_below folder row.uri
    ≡ (not (is_lt (texts (told_key row) (folder_key folder ++ []))) && is_lt (texts (told_key row) (folder_key folder ++ 2 ∷ [])))
unfolding told_key folder_key
below_told folder row = let first = has_first row.uri in rw first.is (below_parts row (parts folder) first.first first.others)

-- what is before the beginning is before the end
before_longer : (key front end : List ℕ) → is_lt (texts key (front ++ [])) ≡ true → is_lt (texts key (front ++ end)) ≡ true
before_longer [] [] end h = absurd (cc)
before_longer (k ∷ key) [] end h = absurd (cc)
before_longer [] (f ∷ front) end h = refl
before_longer (k ∷ key) (f ∷ front) end h = by_cases (nat_cmp k f) h (before_longer key front end)
  where
    by_cases : (o : Ordering) → is_lt (ordering_then o (texts key (front ++ []))) ≡ true
        → (is_lt (texts key (front ++ [])) ≡ true → is_lt (texts key (front ++ end)) ≡ true)
        → is_lt (ordering_then o (texts key (front ++ end))) ≡ true
    by_cases Less h more = refl
    by_cases Equal h more = more h
    by_cases Greater h more = absurd (cc)

pub told_points_rise : (rows : List Row) (folder : List ℕ) (s e : ℕ) → s ≤ length rows
    → IsPartitionPoint (IsBefore told_key (folder_key folder ++ [])) (IsNotBefore told_key (folder_key folder ++ [])) rows s
    → IsPartitionPoint (IsBefore told_key (folder_key folder ++ 2 ∷ [])) (IsNotBefore told_key (folder_key folder ++ 2 ∷ [])) rows e → s ≤ e
told_points_rise rows folder s e within low high = by_cases (cases_lt e s)
  where
    by_cases : (e < s) ⊎ (s ≤ e) → s ≤ e
    by_cases (inr rise) = rise
    by_cases (inl fall) =
        let early : is_lt (texts (told_key (get_or rows e no_row)) (folder_key folder ++ 2 ∷ [])) ≡ true =
        before_longer (told_key (get_or rows e no_row)) (folder_key folder) (2 ∷ []) (low.0 e no_row (omega arith) fall) in
        let late : is_lt (texts (told_key (get_or rows e no_row)) (folder_key folder ++ 2 ∷ [])) ≡ false =
        high.1 e no_row (omega arith) (omega arith) in
        absurd (cc)

pub told_range : (rows : List Row) (folder : List ℕ) (s e : ℕ) → s ≤ length rows
    → IsPartitionPoint (IsBefore told_key (folder_key folder ++ [])) (IsNotBefore told_key (folder_key folder ++ [])) rows s
    → IsPartitionPoint (IsBefore told_key (folder_key folder ++ 2 ∷ [])) (IsNotBefore told_key (folder_key folder ++ 2 ∷ [])) rows e
    → take (e - s) (drop s rows) ≡ filter (λ row. is_below folder row.uri) rows
told_range rows folder s e within low high = sym (filter_range (λ row. is_below folder row.uri) rows s (e - s) before inside behind)
  where
    rise : s ≤ e
    rise = told_points_rise rows folder s e within low high

    before : (k : ℕ) (d : Row) → k < s → k < length rows → is_below folder (get_or rows k d).uri ≡ false
    before k d below under = rw (below_told folder (get_or rows k d), low.0 k d (omega arith) below) refl

    inside : (k : ℕ) (d : Row) → s ≤ k → k < s + (e - s) → k < length rows → is_below folder (get_or rows k d).uri ≡ true
    inside k d from to under =
        rw (below_told folder (get_or rows k d), low.1 k d from under, high.0 k d (omega arith) (let h : s ≤ e = rise in omega arith)) refl

    behind : (k : ℕ) (d : Row) → s + (e - s) ≤ k → k < length rows → is_below folder (get_or rows k d).uri ≡ false
    behind k d from under = rw (below_told folder (get_or rows k d), high.1 k d (let h : s ≤ e = rise in omega arith) under)
        (and_false (not (is_lt (texts (told_key (get_or rows k d)) (folder_key folder ++ [])))))

-- ---- when songs are told below a folder

told_filled : (rows : List Row) → nat_eq (length (told_order rows)) 0 ≡ nat_eq (length rows) 0
told_filled [] = refl
told_filled (row ∷ rows) = filled (told_order rows) ∙ sym some
  where
    some : nat_eq (length (row ∷ rows)) 0 ≡ false
    some = grind (arith, nat_tests)

    filled : (told : List Row) → nat_eq (length (replaced told_key (told_key row) (row ∷ []) told)) 0 ≡ false
    filled [] = grind (arith, nat_tests)
    filled (x ∷ xs) = by_cases (texts (told_key row) (told_key x))
      where
        by_cases : (o : Ordering) → nat_eq (length (match_ordering o (row ∷ x ∷ xs) (row ∷ xs) (x ∷ replaced told_key (told_key row) (row
            ∷ []) xs))) 0 ≡ false
        by_cases Less = grind (arith, nat_tests)
        by_cases Equal = grind (arith, nat_tests)
        by_cases Greater = grind (arith, nat_tests)

pub any_told : (p : Row → Bool) (rows : List Row) → IsRising row_uri rows → list_any p (told_order rows) ≡ list_any p rows
any_told p rows rising =
    any-filter p (told_order rows) ∙ ap (λ (l : List Row). not (nat_eq (length l) 0)) (passing p rows rising)
    ∙ ap not (told_filled (filter p rows)) ∙ sym (any-filter p rows)

pub told_few : (rows : List Row) → length (told_order rows) ≤ length rows
told_few [] = omega arith
told_few (row ∷ rows) = omega (arith, length_replaced told_key (told_key row) (row ∷ []) (told_order rows), told_few rows)
