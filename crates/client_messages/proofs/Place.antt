-- What a search by number finds among the clients, and what a change at that place makes of them.
use Rattle.std.proofs.Common.{◌≡◌, ◌≢◌, ℕ, zero, suc, ◌<◌, ◌≤◌, nat_lt, List, [], ◌∷◌, length, slice_index_or, slice_set, take, drop}
use Rattle.std.proofs.Common.{filter, map, Some, None, Result, Ok, Err, IfOk, IfErr, refl, sym, ap, arith}
use Rattle.std.specs.List.{remove}
use Rattle.std.specs.List.Sorted.{IsSearchInRange, IsBinarySearchResult, IsNonDecreasingBy}
use Rattle.std.specs.Ordering.{nat_cmp, ordering_index}
use Rattle.std.proofs.lemmas.Cmp.{ranked}
use Rattle.std.proofs.lemmas.List.Sorted.{IsNonDecreasingBy-from_default}
use Rattle.std.proofs.lemmas.Bool.Decides.{nat_tests}
use Rattle.client_messages.specs.declared.listener.Listener.{Listener}
use Rattle.client_messages.specs.Listeners.{newcomer, client_at, IsRising, IsAt, IsGapFor, listed, left, at_client}

-- a binary search by number ends at the client, or at the gap for it
pub searched : (ls : List Listener) → IsRising ls → (c : ℕ) (r : Result ℕ ℕ) → IsSearchInRange r (length ls)
    → IsBinarySearchResult (λ l. nat_cmp l.client c) ls r → record { found : IfOk r (IsAt ls c); absent : IfErr r (IsGapFor ls c) }
searched ls rising c r in_range position = cases r in_range position
  where
    -- the comparisons with the number rise along the list, as a binary search asks
    comparisons_rise : IsNonDecreasingBy (λ l. ordering_index (nat_cmp l.client c)) ls
    comparisons_rise = IsNonDecreasingBy-from_default (λ l. ordering_index (nat_cmp l.client c)) ls (newcomer 0) (λ i j le in_range.
        let numbers_rise : client_at ls i ≤ client_at ls j =
        grind (arith, rising i j (newcomer 0), λ (same : i ≡ j). ap (client_at ls) same) in
        grind (arith, nat_tests))

    cases : (r : Result ℕ ℕ) → IsSearchInRange r (length ls) → IsBinarySearchResult (λ l. nat_cmp l.client c) ls r
        → record { found : IfOk r (IsAt ls c); absent : IfErr r (IsGapFor ls c) }
    cases (Ok at) in_range equal = record {
      found = record { in_range = in_range; has_number = ranked _ c _ (sym (equal (newcomer 0))) };
      absent = tt;
    }
    cases (Err at) in_range parted = record {
      found = tt;
      absent = record {
        in_range = in_range;
        smaller_before = λ j lt. ranked _ c _ (sym ((parted comparisons_rise).0 j (newcomer 0) (omega arith) lt));
        greater_after = λ j le lt. ranked _ c _ (sym ((parted comparisons_rise).1 j (newcomer 0) le lt));
      };
    }

-- a place that has the number is the place i
abbrev pub OnlyAt : List Listener → ℕ → ℕ → Type 0
OnlyAt ls c i = (j : ℕ) → j < length ls → client_at ls j ≡ c → j ≡ i

-- no place has the number
abbrev pub IsAbsent : List Listener → ℕ → Type 0
IsAbsent ls c = (j : ℕ) → j < length ls → client_at ls j ≢ c

pub only_at : (ls : List Listener) (c i : ℕ) → IsRising ls → IsAt ls c i → OnlyAt ls c i
only_at ls c i rising is_at j lt same = grind (arith, rising i j (newcomer 0), rising j i (newcomer 0), is_at.in_range, is_at.has_number)

only_at_tail : (l : Listener) (ls : List Listener) (c i : ℕ) → OnlyAt (l ∷ ls) c (suc i) → OnlyAt ls c i
only_at_tail l ls c i only j lt same = let here = only (suc j) (omega arith) same in omega arith

absent_after : (l : Listener) (ls : List Listener) (c : ℕ) → OnlyAt (l ∷ ls) c 0 → IsAbsent ls c
absent_after l ls c only j lt same = let here = only (suc j) (omega arith) same in omega arith

absent_tail : (l : Listener) (ls : List Listener) (c : ℕ) → IsAbsent (l ∷ ls) c → IsAbsent ls c
absent_tail l ls c absent j lt = absent (suc j) (omega arith)

is_at_tail : (l : Listener) (ls : List Listener) (c i : ℕ) → IsAt (l ∷ ls) c (suc i) → IsAt ls c i
is_at_tail l ls c i is_at = record { in_range = omega (arith, is_at.in_range); has_number = is_at.has_number }

pub listed_absent : (ls : List Listener) (c : ℕ) → IsAbsent ls c → listed ls c ≡ None
listed_absent [] c absent = refl
listed_absent (l ∷ ls) c absent = grind (arith, nat_tests, absent 0 (omega arith), listed_absent ls c (absent_tail l ls c absent))

pub left_absent : (ls : List Listener) (c : ℕ) → IsAbsent ls c → left ls c ≡ ls
left_absent [] c absent = refl
left_absent (l ∷ ls) c absent = grind (arith, nat_tests, absent 0 (omega arith), left_absent ls c (absent_tail l ls c absent))

pub changed_absent : (ls : List Listener) (c : ℕ) (change : Listener → Listener) → IsAbsent ls c → map (at_client c change) ls ≡ ls
changed_absent [] c change absent = refl
changed_absent (l ∷ ls) c change absent =
    grind (arith, nat_tests, absent 0 (omega arith), changed_absent ls c change (absent_tail l ls c absent))

pub listed_only : (ls : List Listener) (c i : ℕ) (d : Listener) → IsAt ls c i → OnlyAt ls c i → listed ls c ≡ Some (slice_index_or ls i d)
listed_only [] c i d is_at only = absurd (omega (arith, is_at.in_range))
listed_only (l ∷ ls) c zero d is_at only = grind (arith, nat_tests, is_at.has_number)
listed_only (l ∷ ls) c (suc i) d is_at only =
    grind (arith, nat_tests, only 0 (omega arith), listed_only ls c i d (is_at_tail l ls c i is_at) (only_at_tail l ls c i only))

pub left_only : (ls : List Listener) (c i : ℕ) → IsAt ls c i → OnlyAt ls c i → left ls c ≡ remove ls i
left_only [] c i is_at only = absurd (omega (arith, is_at.in_range))
left_only (l ∷ ls) c zero is_at only = grind (arith, nat_tests, is_at.has_number, left_absent ls c (absent_after l ls c only))
left_only (l ∷ ls) c (suc i) is_at only =
    grind (arith, nat_tests, only 0 (omega arith), left_only ls c i (is_at_tail l ls c i is_at) (only_at_tail l ls c i only))

pub changed_only : (ls : List Listener) (c i : ℕ) (d : Listener) (change : Listener → Listener) → IsAt ls c i → OnlyAt ls c i
    → map (at_client c change) ls ≡ slice_set ls i (change (slice_index_or ls i d))
changed_only [] c i d change is_at only = absurd (omega (arith, is_at.in_range))
changed_only (l ∷ ls) c zero d change is_at only =
    grind (arith, nat_tests, is_at.has_number, changed_absent ls c change (absent_after l ls c only))
changed_only (l ∷ ls) c (suc i) d change is_at only =
    grind (
      arith,
      nat_tests,
      only 0 (omega arith),
      changed_only ls c i d change (is_at_tail l ls c i is_at) (only_at_tail l ls c i only),
    )

-- the clients below the number stand in the first places
pub below_front : (ls : List Listener) (c n : ℕ) → ((j : ℕ) → j < n → j < length ls → client_at ls j < c)
    → ((j : ℕ) → n ≤ j → j < length ls → c ≤ client_at ls j) → filter (λ l. nat_lt l.client c) ls ≡ take n ls
below_front [] c zero before after = refl
below_front [] c (suc n) before after = refl
below_front (l ∷ ls) c zero before after =
    grind (
      arith,
      nat_tests,
      after 0 (omega arith) (omega arith),
      below_front ls c zero (λ j lt. absurd (omega arith)) (λ j le lt. after (suc j) (omega arith) (omega arith)),
    )
below_front (l ∷ ls) c (suc n) before after =
    grind (
      arith,
      nat_tests,
      before 0 (omega arith) (omega arith),
      below_front ls c n (λ j lt in_range. before (suc j) (omega arith) (omega arith))
          (λ j le lt. after (suc j) (omega arith) (omega arith)),
    )

-- those above it in the last ones
pub above_back : (ls : List Listener) (c n : ℕ) → ((j : ℕ) → j < n → j < length ls → client_at ls j ≤ c)
    → ((j : ℕ) → n ≤ j → j < length ls → c < client_at ls j) → filter (λ l. nat_lt c l.client) ls ≡ drop n ls
above_back [] c zero before after = refl
above_back [] c (suc n) before after = refl
above_back (l ∷ ls) c zero before after =
    grind (
      arith,
      nat_tests,
      after 0 (omega arith) (omega arith),
      above_back ls c zero (λ j lt. absurd (omega arith)) (λ j le lt. after (suc j) (omega arith) (omega arith)),
    )
above_back (l ∷ ls) c (suc n) before after =
    grind (
      arith,
      nat_tests,
      before 0 (omega arith) (omega arith),
      above_back ls c n (λ j lt in_range. before (suc j) (omega arith) (omega arith))
          (λ j le lt. after (suc j) (omega arith) (omega arith)),
    )
