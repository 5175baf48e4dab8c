-- What stands below a folder stands together.
use Rattle.std.proofs.Common.{◌≡◌, ◌⊎◌, inl, inr, ℕ, zero, suc, ◌+◌, ◌-◌, ◌<◌, ◌≤◌, Bool, true, false, not, ◌&&◌, ◌||◌}
use Rattle.std.proofs.Common.{List, [], ◌∷◌, ◌++◌, length, take, drop, get_or, nat_eq, nat_lt, refl, sym, ap, ◌∙◌}
use Rattle.std.proofs.Common.{arith, cond, filter}
use Rattle.std.specs.declared.cmp.Ordering.{Ordering}
use Rattle.std.specs.declared.cmp.Ordering.TheVariants.{Less, Equal, Greater}
use Rattle.std.specs.Ordering.{nat_cmp, is_lt, is_le, match_ordering, ordering_then}
use Rattle.std.specs.List.{list_any}
use Rattle.std.specs.List.Sorted.{IsPartitionPoint}
use Rattle.std.proofs.lemmas.Bool.{cases_lt}
use Rattle.std.proofs.lemmas.Bool.Decides.{nat_tests}
use Rattle.song_db.specs.Place.{is_below}
use Rattle.song_db.proofs.Below.{begins_below, below-bytes, and_false}
use Rattle.song_db.proofs.Rising.{texts, no_row}
use Rattle.song_db.specs.Replaced.{IsBefore, IsNotBefore}
use Rattle.song_db.specs.Row.{Row, row_uri}

-- a path that is no longer than the folder
pub before_short : (path folder : List ℕ) (next : ℕ) → length path ≤ length folder
    → is_lt (texts path (folder ++ next ∷ [])) ≡ is_le (texts path (take (length path) folder))
before_short [] [] next short = refl
before_short [] (x ∷ xs) next short = refl
before_short (y ∷ ys) [] next short = absurd (omega arith)
before_short (y ∷ ys) (x ∷ xs) next short = by_cases (nat_cmp y x) (before_short ys xs next (omega arith))
  where
    by_cases : (o : Ordering) → is_lt (texts ys (xs ++ next ∷ [])) ≡ is_le (texts ys (take (length ys) xs))
        → is_lt (ordering_then o (texts ys (xs ++ next ∷ []))) ≡ is_le (ordering_then o (texts ys (take (length ys) xs)))
    by_cases Less rest = refl
    by_cases Equal rest = rest
    by_cases Greater rest = refl

ends : (o : Ordering) (ys : List ℕ) → is_lt (ordering_then o (texts ys [])) ≡ is_lt o
ends Less ys = refl
ends Equal [] = refl
ends Equal (y ∷ ys) = refl
ends Greater ys = refl

first_byte : (y next : ℕ) (ys : List ℕ) → is_lt (texts (y ∷ ys) (next ∷ [])) ≡ nat_lt y next
first_byte y next ys = ends (nat_cmp y next) ys ∙ by_cases (nat_lt y next) (nat_eq y next)
  where
    by_cases : (a b : Bool) → is_lt (cond a Less (cond b Equal Greater)) ≡ a
    by_cases true b = refl
    by_cases false true = refl
    by_cases false false = refl

-- a longer one
pub before_long : (path folder : List ℕ) (next : ℕ) → length folder < length path
    → is_lt (texts path (folder ++ next ∷ [])) ≡ match_ordering (texts (take (length folder) path) folder) true (nat_lt (get_or
    path (length folder) 0) next) false
before_long [] folder next long = absurd (omega arith)
before_long (y ∷ ys) [] next long = first_byte y next ys
before_long (y ∷ ys) (x ∷ xs) next long = by_cases (nat_cmp y x) (before_long ys xs next (omega arith))
  where
    by_cases : (o : Ordering)
        → is_lt (texts ys (xs ++ next ∷ [])) ≡ match_ordering (texts (take (length xs) ys) xs) true (nat_lt (get_or ys (length xs)
        0) next) false → is_lt (ordering_then o (texts ys (xs ++ next ∷ []))) ≡ match_ordering (ordering_then o (texts (take
        (length xs) ys) xs)) true (nat_lt (get_or ys (length xs) 0) next) false
    by_cases Less rest = refl
    by_cases Equal rest = rest
    by_cases Greater rest = refl

-- from the folder and a slash on, and before the folder and the next byte
order : (folder path : List ℕ)
    → begins_below folder path ≡ (not (is_lt (texts path (folder ++ 47 ∷ []))) && is_lt (texts path (folder ++ 48 ∷ [])))
order [] [] = refl
order [] (y ∷ ys) = rw (first_byte y 47 ys, first_byte y 48 ys) (by_cases (nat_eq y 47) refl (nat_lt y 47) refl (nat_lt y 48) refl)
  where
    by_cases : (a : Bool) → nat_eq y 47 ≡ a → (b : Bool) → nat_lt y 47 ≡ b → (c : Bool) → nat_lt y 48 ≡ c → a ≡ (not b && c)
    by_cases true h true k c l = absurd (grind (arith, nat_tests))
    by_cases true h false k true l = refl
    by_cases true h false k false l = absurd (grind (arith, nat_tests))
    by_cases false h true k c l = refl
    by_cases false h false k true l = absurd (grind (arith, nat_tests))
    by_cases false h false k false l = refl
order (x ∷ xs) [] = refl
order (x ∷ xs) (y ∷ ys) = by_cases (nat_eq x y) refl (nat_lt y x) refl (nat_eq y x) refl (order xs ys)
  where
    by_cases : (a : Bool) → nat_eq x y ≡ a → (b : Bool) → nat_lt y x ≡ b → (c : Bool) → nat_eq y x ≡ c
        → begins_below xs ys ≡ (not (is_lt (texts ys (xs ++ 47 ∷ []))) && is_lt (texts ys (xs ++ 48 ∷ [])))
        → (a && begins_below xs ys) ≡ (not (is_lt (ordering_then (cond b Less (cond c Equal Greater)) (texts ys (xs ++ 47 ∷ []))))
        && is_lt (ordering_then (cond b Less (cond c Equal Greater)) (texts ys (xs ++ 48 ∷ []))))
    by_cases true h true k c l rest = absurd (grind (arith, nat_tests))
    by_cases true h false k true l rest = rest
    by_cases true h false k false l rest = absurd (grind (arith, nat_tests))
    by_cases false h true k c l rest = refl
    by_cases false h false k true l rest = absurd (grind (arith, nat_tests))
    by_cases false h false k false l rest = refl

pub below_order : (folder path : List ℕ)
    → is_below folder path ≡ (not (is_lt (texts path (folder ++ 47 ∷ []))) && is_lt (texts path (folder ++ 48 ∷ [])))
below_order folder path = below-bytes folder path ∙ order folder path

-- what is before the one is before the other
pub before_both : (folder path : List ℕ) → is_lt (texts path (folder ++ 47 ∷ [])) ≡ true → is_lt (texts path (folder ++ 48 ∷ [])) ≡ true
before_both [] [] h = refl
before_both [] (y ∷ ys) h = first_byte y 48 ys ∙ (let low : nat_lt y 47 ≡ true = sym (first_byte y 47 ys) ∙ h in grind (arith, nat_tests))
before_both (x ∷ xs) [] h = refl
before_both (x ∷ xs) (y ∷ ys) h = by_cases (nat_cmp y x) h (before_both xs ys)
  where
    by_cases : (o : Ordering) → is_lt (ordering_then o (texts ys (xs ++ 47 ∷ []))) ≡ true
        → (is_lt (texts ys (xs ++ 47 ∷ [])) ≡ true → is_lt (texts ys (xs ++ 48 ∷ [])) ≡ true)
        → is_lt (ordering_then o (texts ys (xs ++ 48 ∷ []))) ≡ true
    by_cases Less h rest = refl
    by_cases Equal h rest = rest h
    by_cases Greater h rest = absurd (cc)

-- a filter that takes what stands together
pub filter_range : {X : Type 0} (p : X → Bool) (xs : List X) (s n : ℕ) → ((k : ℕ) (d : X) → k < s → k < length xs
    → p (get_or xs k d) ≡ false) → ((k : ℕ) (d : X) → s ≤ k → k < s + n → k < length xs → p (get_or xs k d) ≡ true)
    → ((k : ℕ) (d : X) → s + n ≤ k → k < length xs → p (get_or xs k d) ≡ false) → filter p xs ≡ take n (drop s xs)
filter_range p [] zero zero before within behind = refl
filter_range p [] zero (suc n) before within behind = refl
filter_range p [] (suc s) zero before within behind = refl
filter_range p [] (suc s) (suc n) before within behind = refl
filter_range p (x ∷ xs) (suc s) n before within behind =
    rw (before 0 x (omega arith) (omega arith)) (filter_range p xs s n (λ k d a b. before (suc k) d (omega arith) (omega arith)) (λ
    k d a b c. within (suc k) d (omega arith) (omega arith) (omega arith)) (λ k d a b. behind (suc k) d (omega arith) (omega arith)))
filter_range p (x ∷ xs) zero (suc n) before within behind =
    rw (within 0 x (omega arith) (omega arith) (omega arith)) (ap (λ l. x ∷ l) (filter_range p xs zero n (λ k d a b. absurd (omega
    arith)) (λ k d a b c. within (suc k) d (omega arith) (omega arith) (omega arith)) (λ k d a b. behind (suc k) d (omega
    arith) (omega arith))))
filter_range p (x ∷ xs) zero zero before within behind =
    rw (behind 0 x (omega arith) (omega arith)) (filter_range p xs zero zero (λ k d a b. absurd (omega arith)) (λ k d a b c. absurd
    (omega arith)) (λ k d a b. behind (suc k) d (omega arith) (omega arith)))

-- whether any passes
pub any-filter : {X : Type 0} (p : X → Bool) (xs : List X) → list_any p xs ≡ not (nat_eq (length (filter p xs)) 0)
any-filter p [] = refl
any-filter {X} p (x ∷ xs) = by_cases (p x) (any-filter p xs)
  where
    some : not (nat_eq (length (x ∷ filter p xs)) 0) ≡ true
    some = grind (arith, nat_tests)

    by_cases : (b : Bool) → list_any p xs ≡ not (nat_eq (length (filter p xs)) 0)
        → (b || list_any p xs) ≡ not (nat_eq (length (cond b (x ∷ filter p xs) (filter p xs))) 0)
    by_cases true rest = sym some
    by_cases false rest = rest

pub points_rise : (rows : List Row) (folder : List ℕ) (s e : ℕ) → s ≤ length rows
    → IsPartitionPoint (IsBefore row_uri (folder ++ 47 ∷ [])) (IsNotBefore row_uri (folder ++ 47 ∷ [])) rows s
    → IsPartitionPoint (IsBefore row_uri (folder ++ 48 ∷ [])) (IsNotBefore row_uri (folder ++ 48 ∷ [])) rows e → s ≤ e
points_rise rows folder s e within low high = by_cases (cases_lt e s)
  where
    by_cases : (e < s) ⊎ (s ≤ e) → s ≤ e
    by_cases (inr rise) = rise
    by_cases (inl fall) =
        let early : is_lt (texts (get_or rows e no_row).uri (folder ++ 48 ∷ [])) ≡ true = before_both folder (get_or rows e
        no_row).uri (low.0 e no_row (omega arith) fall) in
        let late : is_lt (texts (get_or rows e no_row).uri (folder ++ 48 ∷ [])) ≡ false = high.1 e no_row (omega arith) (omega arith) in
        absurd (cc)

pub below_range : (rows : List Row) (folder : List ℕ) (s e : ℕ) → s ≤ length rows
    → IsPartitionPoint (IsBefore row_uri (folder ++ 47 ∷ [])) (IsNotBefore row_uri (folder ++ 47 ∷ [])) rows s
    → IsPartitionPoint (IsBefore row_uri (folder ++ 48 ∷ [])) (IsNotBefore row_uri (folder ++ 48 ∷ [])) rows e
    → take (e - s) (drop s rows) ≡ filter (λ row. is_below folder row.uri) rows
below_range rows folder s e within low high = sym (filter_range (λ row. is_below folder row.uri) rows s (e - s) before inside behind)
  where
    rise : s ≤ e
    rise = points_rise rows folder s e within low high

    before : (k : ℕ) (d : Row) → k < s → k < length rows → is_below folder (get_or rows k d).uri ≡ false
    before k d below under = rw (below_order folder (get_or rows k d).uri, low.0 k d (omega arith) below) refl

    inside : (k : ℕ) (d : Row) → s ≤ k → k < s + (e - s) → k < length rows → is_below folder (get_or rows k d).uri ≡ true
    inside k d from to under = rw (
      below_order folder (get_or rows k d).uri,
      low.1 k d from under,
      high.0 k d (omega arith) (let h
          : s ≤ e = rise in omega arith),
    ) refl

    behind : (k : ℕ) (d : Row) → s + (e - s) ≤ k → k < length rows → is_below folder (get_or rows k d).uri ≡ false
    behind k d from under = rw (below_order folder (get_or rows k d).uri, high.1 k d (let h : s ≤ e = rise in omega arith) under)
        (and_false (not (is_lt (texts (get_or rows k d).uri (folder ++ 47 ∷ [])))))
