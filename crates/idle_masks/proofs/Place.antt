-- What a search by number finds among the clients, and what a change at that place makes of them.
use Rattle.std.proofs.Common.{◌≡◌, ◌≢◌, ℕ, zero, suc, ◌<◌, ◌≤◌, nat_lt, List, [], ◌∷◌, length, slice_index_or, slice_set, take, drop}
use Rattle.std.proofs.Common.{filter, Option, Some, None, Result, Ok, Err, IfOk, IfErr, refl, sym, ap, arith}
use Rattle.std.specs.List.{remove}
use Rattle.std.specs.List.Sorted.{IsSearchInRange, IsBinarySearchResult, IsNonDecreasingBy}
use Rattle.std.specs.Ordering.{nat_cmp, ordering_index}
use Rattle.std.proofs.lemmas.Cmp.{ranked}
use Rattle.std.proofs.lemmas.List.Sorted.{IsNonDecreasingBy-from_default}
use Rattle.std.proofs.lemmas.Bool.Decides.{nat_tests}
use Rattle.idle_masks.specs.declared.subsystem.Subsystems.{Subsystems}
use Rattle.idle_masks.specs.declared.watch.Watched.{Watched}
use Rattle.idle_masks.specs.Watched.{newcomer, client_at, IsRising, IsAt, IsGapFor, watched, left, with_waiting}

-- a binary search by number ends at the client, or at the gap for it
pub searched : (ws : List Watched) → IsRising ws → (c : ℕ) (r : Result ℕ ℕ) → IsSearchInRange r (length ws)
    → IsBinarySearchResult (λ w. nat_cmp w.client c) ws r → record { found : IfOk r (IsAt ws c); absent : IfErr r (IsGapFor ws c) }
searched ws rising c r in_range position = cases r in_range position
  where
    -- the comparisons with the number rise along the list, as a binary search asks
    comparisons_rise : IsNonDecreasingBy (λ w. ordering_index (nat_cmp w.client c)) ws
    comparisons_rise = IsNonDecreasingBy-from_default (λ w. ordering_index (nat_cmp w.client c)) ws (newcomer 0) (λ i j le in_range.
        let numbers_rise : client_at ws i ≤ client_at ws j =
        grind (arith, rising i j (newcomer 0), λ (same : i ≡ j). ap (client_at ws) same) in
        grind (arith, nat_tests))

    cases : (r : Result ℕ ℕ) → IsSearchInRange r (length ws) → IsBinarySearchResult (λ w. nat_cmp w.client c) ws r
        → record { found : IfOk r (IsAt ws c); absent : IfErr r (IsGapFor ws c) }
    cases (Ok at) in_range equal = record {
      found = record { in_range = in_range; has_number = ranked _ c _ (sym (equal (newcomer 0))) };
      absent = tt;
    }
    cases (Err at) in_range parted = record {
      found = tt;
      absent = record {
        in_range = in_range;
        smaller_before = λ j lt. ranked _ c _ (sym ((parted comparisons_rise).0 j (newcomer 0) (omega arith) lt));
        greater_after = λ j le lt. ranked _ c _ (sym ((parted comparisons_rise).1 j (newcomer 0) le lt));
      };
    }

-- a place that has the number is the place i
abbrev pub OnlyAt : List Watched → ℕ → ℕ → Type 0
OnlyAt ws c i = (j : ℕ) → j < length ws → client_at ws j ≡ c → j ≡ i

-- no place has the number
abbrev pub IsAbsent : List Watched → ℕ → Type 0
IsAbsent ws c = (j : ℕ) → j < length ws → client_at ws j ≢ c

pub only_at : (ws : List Watched) (c i : ℕ) → IsRising ws → IsAt ws c i → OnlyAt ws c i
only_at ws c i rising is_at j lt same = grind (arith, rising i j (newcomer 0), rising j i (newcomer 0), is_at.in_range, is_at.has_number)

only_at_tail : (w : Watched) (ws : List Watched) (c i : ℕ) → OnlyAt (w ∷ ws) c (suc i) → OnlyAt ws c i
only_at_tail w ws c i only j lt same = let here = only (suc j) (omega arith) same in omega arith

absent_after : (w : Watched) (ws : List Watched) (c : ℕ) → OnlyAt (w ∷ ws) c 0 → IsAbsent ws c
absent_after w ws c only j lt same = let here = only (suc j) (omega arith) same in omega arith

absent_tail : (w : Watched) (ws : List Watched) (c : ℕ) → IsAbsent (w ∷ ws) c → IsAbsent ws c
absent_tail w ws c absent j lt = absent (suc j) (omega arith)

is_at_tail : (w : Watched) (ws : List Watched) (c i : ℕ) → IsAt (w ∷ ws) c (suc i) → IsAt ws c i
is_at_tail w ws c i is_at = record { in_range = omega (arith, is_at.in_range); has_number = is_at.has_number }

pub watched_absent : (ws : List Watched) (c : ℕ) → IsAbsent ws c → watched ws c ≡ None
watched_absent [] c absent = refl
watched_absent (w ∷ ws) c absent = grind (arith, nat_tests, absent 0 (omega arith), watched_absent ws c (absent_tail w ws c absent))

left_absent : (ws : List Watched) (c : ℕ) → IsAbsent ws c → left ws c ≡ ws
left_absent [] c absent = refl
left_absent (w ∷ ws) c absent = grind (arith, nat_tests, absent 0 (omega arith), left_absent ws c (absent_tail w ws c absent))

with_waiting_absent : (ws : List Watched) (c : ℕ) (mask : Option Subsystems) → IsAbsent ws c → with_waiting ws c mask ≡ ws
with_waiting_absent [] c mask absent = refl
with_waiting_absent (w ∷ ws) c mask absent =
    grind (arith, nat_tests, absent 0 (omega arith), with_waiting_absent ws c mask (absent_tail w ws c absent))

pub watched_only : (ws : List Watched) (c i : ℕ) (d : Watched) → IsAt ws c i → OnlyAt ws c i → watched ws c ≡ Some (slice_index_or ws i d)
watched_only [] c i d is_at only = absurd (omega (arith, is_at.in_range))
watched_only (w ∷ ws) c zero d is_at only = grind (arith, nat_tests, is_at.has_number)
watched_only (w ∷ ws) c (suc i) d is_at only =
    grind (arith, nat_tests, only 0 (omega arith), watched_only ws c i d (is_at_tail w ws c i is_at) (only_at_tail w ws c i only))

pub left_only : (ws : List Watched) (c i : ℕ) → IsAt ws c i → OnlyAt ws c i → left ws c ≡ remove ws i
left_only [] c i is_at only = absurd (omega (arith, is_at.in_range))
left_only (w ∷ ws) c zero is_at only = grind (arith, nat_tests, is_at.has_number, left_absent ws c (absent_after w ws c only))
left_only (w ∷ ws) c (suc i) is_at only =
    grind (arith, nat_tests, only 0 (omega arith), left_only ws c i (is_at_tail w ws c i is_at) (only_at_tail w ws c i only))

pub with_waiting_only : (ws : List Watched) (c i : ℕ) (d : Watched) (mask : Option Subsystems) → IsAt ws c i → OnlyAt ws c i
    → with_waiting ws c mask ≡ slice_set ws i (record (slice_index_or ws i d) { waiting = mask })
with_waiting_only [] c i d mask is_at only = absurd (omega (arith, is_at.in_range))
with_waiting_only (w ∷ ws) c zero d mask is_at only =
    grind (arith, nat_tests, is_at.has_number, with_waiting_absent ws c mask (absent_after w ws c only))
with_waiting_only (w ∷ ws) c (suc i) d mask is_at only =
    grind (arith, nat_tests, only 0 (omega arith), with_waiting_only ws c i d mask (is_at_tail w ws c i is_at) (only_at_tail w ws c i only))

-- the clients below the number stand in the first places
pub below_front : (ws : List Watched) (c n : ℕ) → ((j : ℕ) → j < n → j < length ws → client_at ws j < c)
    → ((j : ℕ) → n ≤ j → j < length ws → c ≤ client_at ws j) → filter (λ w. nat_lt w.client c) ws ≡ take n ws
below_front [] c zero before after = refl
below_front [] c (suc n) before after = refl
below_front (w ∷ ws) c zero before after =
    grind (
      arith,
      nat_tests,
      after 0 (omega arith) (omega arith),
      below_front ws c zero (λ j lt. absurd (omega arith)) (λ j le lt. after (suc j) (omega arith) (omega arith)),
    )
below_front (w ∷ ws) c (suc n) before after =
    grind (
      arith,
      nat_tests,
      before 0 (omega arith) (omega arith),
      below_front ws c n (λ j lt in_range. before (suc j) (omega arith) (omega arith))
          (λ j le lt. after (suc j) (omega arith) (omega arith)),
    )

-- those above it in the last ones
pub above_back : (ws : List Watched) (c n : ℕ) → ((j : ℕ) → j < n → j < length ws → client_at ws j ≤ c)
    → ((j : ℕ) → n ≤ j → j < length ws → c < client_at ws j) → filter (λ w. nat_lt c w.client) ws ≡ drop n ws
above_back [] c zero before after = refl
above_back [] c (suc n) before after = refl
above_back (w ∷ ws) c zero before after =
    grind (
      arith,
      nat_tests,
      after 0 (omega arith) (omega arith),
      above_back ws c zero (λ j lt. absurd (omega arith)) (λ j le lt. after (suc j) (omega arith) (omega arith)),
    )
above_back (w ∷ ws) c (suc n) before after =
    grind (
      arith,
      nat_tests,
      before 0 (omega arith) (omega arith),
      above_back ws c n (λ j lt in_range. before (suc j) (omega arith) (omega arith))
          (λ j le lt. after (suc j) (omega arith) (omega arith)),
    )
