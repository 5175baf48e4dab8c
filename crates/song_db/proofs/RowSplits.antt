-- Where rising things are split by a key, by what is known of some of them.
use Rattle.std.proofs.Common.{◌≡◌, ◌⊎◌, inl, inr, ℕ, zero, suc, ◌+◌, ◌-◌, ◌<◌, ◌≤◌, Bool, true, false, List, []}
use Rattle.std.proofs.Common.{◌∷◌, length, take, drop}
use Rattle.std.proofs.Common.{get_or, refl, sym, ap, ◌∙◌, arith}
use Rattle.std.specs.List.{AllWithin, AllByRecursion, slice_range}
use Rattle.std.specs.List.Sorted.{IsPartitionPoint, IsStrictlySortedBy}
use Rattle.std.specs.declared.cmp.Ordering.{Ordering}
use Rattle.std.specs.declared.cmp.Ordering.TheVariants.{Less, Equal, Greater}
use Rattle.std.specs.Ordering.{is_lt, is_ge}
use Rattle.std.specs.Str.{bytes_eq}
use Rattle.std.proofs.lemmas.Bool.{cases_lt}
use Rattle.std.proofs.lemmas.Cmp.{tied_itself}
use Rattle.std.specs.Cmp.Lexicographic.{nat_list_cmp_total}
use Rattle.std.proofs.lemmas.List.{get_or-drop, get_or-take, get_or_default}
use Rattle.std.proofs.lemmas.Slice.Eq.{bytes_eq-Decides}
use Rattle.std.proofs.lemmas.Map.Keys.{Less-from_sorted}
use Rattle.song_db.specs.Replaced.{by_text, IsRising, IsBefore, IsNotBefore}
use Rattle.song_db.specs.Row.{Row, row_uri}
use Rattle.song_db.proofs.Rising.{texts, partitioned}
use Rattle.song_db.proofs.WalkOrder.{sorted_drop}

pub not_under : (o : Ordering) → is_ge o ≡ true → is_lt o ≡ false
not_under Less h = absurd (cc)
not_under Equal h = refl
not_under Greater h = refl

pub under : (o : Ordering) → is_ge o ≡ false → is_lt o ≡ true
under Less h = refl
under Equal h = absurd (cc)
under Greater h = absurd (cc)

-- a thing that is seen stands at its place, whatever is given past the end
text_there : {X : Type 0} (text : X → List ℕ) (xs : List X) (own : List ℕ) (i : ℕ) (x d : X) → i < length xs → x ≡ get_or xs i x
    → own ≡ text x → own ≡ text (get_or xs i d)
text_there text xs own i x d within here is = is ∙ ap text (here ∙ get_or_default xs i x d within)

-- with one thing, all in front of it are before the key
pub before_of : {X : Type 0} (text : X → List ℕ) (xs : List X) (key own : List ℕ) (i : ℕ) (x : X) → IsRising text xs → i < length xs
    → x ≡ get_or xs i x → own ≡ text x → is_lt (texts own key) ≡ true → AllWithin (IsBefore text key) xs 0 (i + 1)
before_of text xs key own i x rising within here is less k d from below =
    partitioned text xs key rising k i d (omega arith) within (ap (λ it. is_lt (texts it key)) (sym (text_there text xs own i x d
    within here is)) ∙ less)

-- with one thing, none behind it is before the key
pub behind_of : {X : Type 0} (text : X → List ℕ) (xs : List X) (key own : List ℕ) (i : ℕ) (x : X) → IsRising text xs → i < length xs
    → x ≡ get_or xs i x → own ≡ text x → is_lt (texts own key) ≡ false → AllWithin (IsNotBefore text key) xs i (length xs)
behind_of text xs key own i x rising within here is not k d from below = by_cases (is_lt (texts (text (get_or xs k d)) key)) refl
  where
    by_cases : (b : Bool) → is_lt (texts (text (get_or xs k d)) key) ≡ b → is_lt (texts (text (get_or xs k d)) key) ≡ false
    by_cases false h = h
    by_cases true h =
        let less : is_lt (texts (text (get_or xs i d)) key) ≡ true = partitioned text xs key rising i k d from below h in
        absurd (cc (ap (λ it. is_lt (texts it key)) (text_there text xs own i x d within here is) ∙ less))

-- the row of the URI itself splits them
pub split_own : (rows : List Row) (uri own : List ℕ) (i : ℕ) (row : Row) → IsRising row_uri rows → i < length rows
    → row ≡ get_or rows i row → own ≡ row.uri → true ≡ bytes_eq own uri
    → IsPartitionPoint (IsBefore row_uri uri) (IsNotBefore row_uri uri) rows i
split_own rows uri own i row rising within here is same = (before, behind_of row_uri rows uri own i row rising within here is tied)
  where
    equal : own ≡ uri
    equal = (bytes_eq-Decides own uri).0 (sym same)

    tied : is_lt (texts own uri) ≡ false
    tied = ap (λ text. is_lt (texts text uri)) equal ∙ ap is_lt (tied_itself nat_list_cmp_total uri)

    before : AllWithin (IsBefore row_uri uri) rows 0 i
    before k d from below = ap is_lt (ap (texts (get_or rows k d).uri) (sym equal ∙ text_there row_uri rows own i row d within here is)
        ∙ Less-from_sorted (by_text row_uri) rows k i d rising below within)

-- what splits the things between two places splits them all
pub split_within : {X : Type 0} (text : X → List ℕ) (xs : List X) (key : List ℕ) (low high s : ℕ) → low ≤ high → high ≤ length xs
    → AllWithin (IsBefore text key) xs 0 low → AllWithin (IsNotBefore text key) xs high (length xs)
    → s ≤ high - low → length (slice_range xs low high) ≡ high - low
    → IsPartitionPoint (IsBefore text key) (IsNotBefore text key) (slice_range xs low high) s
    → IsPartitionPoint (IsBefore text key) (IsNotBefore text key) xs (low + s)
split_within {X} text xs key low high s rise within before behind short size split = (first, rest)
  where
    between : (k : ℕ) (d : X) → low ≤ k → k < high → get_or (slice_range xs low high) (k - low) d ≡ get_or xs k d
    between k d from below =
        let at : low + (k - low) ≡ k = omega arith in
        get_or-take (high - low) (drop low xs) (k - low) d (omega arith) ∙ get_or-drop low xs (k - low) d
        ∙ ap (λ n. get_or xs n d) at

    first : AllWithin (IsBefore text key) xs 0 (low + s)
    first k d from below = by_cases (cases_lt k low)
      where
        by_cases : (k < low) ⊎ (low ≤ k) → IsBefore text key (get_or xs k d)
        by_cases (inl inside) = before k d (omega arith) inside
        by_cases (inr over) = ap (λ (x : X). is_lt (texts (text x) key)) (sym (between k d over (omega arith))) ∙ split.0 (k - low) d
            (omega arith) (omega arith)

    rest : AllWithin (IsNotBefore text key) xs (low + s) (length xs)
    rest k d from below = by_cases (cases_lt k high)
      where
        by_cases : (k < high) ⊎ (high ≤ k) → IsNotBefore text key (get_or xs k d)
        by_cases (inl inside) = ap (λ (x : X). is_lt (texts (text x) key)) (sym (between k d (omega arith) inside)) ∙ split.1 (k - low)
            d (omega arith) (omega arith)
        by_cases (inr over) = behind k d over below

all_take : {X : Type 0} (P : X → Type 0) (n : ℕ) (xs : List X) → AllByRecursion P xs → AllByRecursion P (take n xs)
all_take P zero xs all = tt
all_take P (suc n) [] all = tt
all_take P (suc n) (x ∷ xs) all = (all.0, all_take P n xs all.1)

sorted_take : {X : Type 0} (c : X → X → Ordering) (n : ℕ) (xs : List X) → IsStrictlySortedBy c xs → IsStrictlySortedBy c (take n xs)
unfolding IsStrictlySortedBy
sorted_take c zero xs sorted = tt
sorted_take c (suc n) [] sorted = tt
sorted_take c (suc n) (x ∷ xs) sorted = (all_take (λ y. c x y ≡ Less) n xs sorted.0, sorted_take c n xs sorted.1)

-- things between two places rise too
pub range_rises : {X : Type 0} (text : X → List ℕ) (xs : List X) (low high : ℕ) → IsRising text xs → IsRising text (slice_range xs low
    high)
range_rises text xs low high rising = sorted_take (by_text text) (high - low) (drop low xs) (sorted_drop (by_text text) low xs rising)
