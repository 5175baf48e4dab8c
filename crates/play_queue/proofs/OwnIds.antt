-- Ids that differ still do so in another order, and without some of them.
use Rattle.std.proofs.Common.{◌≡◌, ◌≢◌, ℕ, ◌+◌, ◌<◌, ◌≤◌, List, ◌++◌, length, get_or, ◌⊎◌, inl, inr, refl, sym, arith}
use Rattle.std.specs.List.{swap}
use Rattle.std.specs.List.Sorted.{IsPermutation}
use Rattle.std.proofs.lemmas.Bool.{cases_eq, cases_lt}
use Rattle.std.proofs.lemmas.List.{get_or_append_left, get_or_default, get_or-append-add, length-append, map-append}
use Rattle.std.proofs.lemmas.List.Edits.{swapped_from_swap, length-swap, Swapped}
use Rattle.std.proofs.lemmas.List.Sorted.{IsPermutation-keeps, IsPermutation-map}
use Rattle.play_queue.specs.declared.entry.Entry.{Entry}
use Rattle.play_queue.specs.Queue.{AllDiffer, ids_of, HaveOwnIds}

pub differ_at : (ids : List ℕ) (i j : ℕ) → AllDiffer ids → i < length ids → j < length ids → i ≢ j → get_or ids i 0 ≢ get_or ids j 0
differ_at ids i j own in_i in_j apart same = by_cases (cases_lt i j)
  where
    by_cases : (i < j) ⊎ (j ≤ i) → ⊥
    by_cases (inl below) = own i j 0 below in_j same
    by_cases (inr above) = own j i 0 (omega arith) in_i (sym same)

swapped_differ : (ids swapped : List ℕ) (i j : ℕ) → i < length ids → j < length ids → AllDiffer ids → length swapped ≡ length ids
    → Swapped (λ k. get_or ids k 0) (λ k. get_or swapped k 0) i j → (a b : ℕ) → a < b → b < length swapped
    → get_or swapped a 0 ≢ get_or swapped b 0
swapped_differ ids swapped i j in_i in_j own long moved a b below within =
    by_cases (cases_eq a i) (cases_eq a j) (cases_eq b i) (cases_eq b j)
  where
    by_cases : (a ≡ i) ⊎ (a ≢ i) → (a ≡ j) ⊎ (a ≢ j) → (b ≡ i) ⊎ (b ≢ i) → (b ≡ j) ⊎ (b ≢ j) → get_or swapped a 0 ≢ get_or swapped b 0
    by_cases (inl a_i) at_j (inl b_i) also = absurd (omega arith)
    by_cases (inl a_i) at_j (inr b_i) (inl b_j) = rw (a_i, b_j, moved.0, moved.1) (differ_at ids j i own in_j in_i (omega arith))
    by_cases (inl a_i) at_j (inr b_i) (inr b_j) =
        rw (a_i, moved.0, moved.2 b b_i b_j) (differ_at ids j b own in_j (omega arith) (omega arith))
    by_cases (inr a_i) (inl a_j) (inl b_i) also = rw (a_j, b_i, moved.0, moved.1) (differ_at ids i j own in_i in_j (omega arith))
    by_cases (inr a_i) (inl a_j) (inr b_i) (inl b_j) = absurd (omega arith)
    by_cases (inr a_i) (inl a_j) (inr b_i) (inr b_j) =
        rw (a_j, moved.1, moved.2 b b_i b_j) (differ_at ids i b own in_i (omega arith) (omega arith))
    by_cases (inr a_i) (inr a_j) (inl b_i) also =
        rw (b_i, moved.0, moved.2 a a_i a_j) (differ_at ids a j own (omega arith) in_j (omega arith))
    by_cases (inr a_i) (inr a_j) (inr b_i) (inl b_j) =
        rw (b_j, moved.1, moved.2 a a_i a_j) (differ_at ids a i own (omega arith) in_i (omega arith))
    by_cases (inr a_i) (inr a_j) (inr b_i) (inr b_j) =
        rw (moved.2 a a_i a_j, moved.2 b b_i b_j) (differ_at ids a b own (omega arith) (omega arith) (omega arith))

-- ids in another order
pub all_differ-permutation : (ids others : List ℕ) → IsPermutation ids others → AllDiffer ids → AllDiffer others
all_differ-permutation ids others moved own = IsPermutation-keeps ids AllDiffer own step others moved
  where
    step : (l : List ℕ) (i j : ℕ) → i < length l → j < length l → AllDiffer l → AllDiffer (swap l i j)
    step l i j in_i in_j apart a b d below within =
        let first : get_or (swap l i j) a d ≡ get_or (swap l i j) a 0 = get_or_default (swap l i j) a d 0 (omega arith) in
        let second : get_or (swap l i j) b d ≡ get_or (swap l i j) b 0 = get_or_default (swap l i j) b d 0 within in
        rw (first, second) (swapped_differ l (swap l i j) i j in_i in_j apart (length-swap l i j)
        (swapped_from_swap l (swap l i j) i j 0 in_i in_j refl) a b below within)

pub own_ids-permutation : (entries others : List Entry) → IsPermutation entries others → HaveOwnIds entries → HaveOwnIds others
own_ids-permutation entries others moved own =
    all_differ-permutation (ids_of entries) (ids_of others) (IsPermutation-map (λ entry. entry.id) entries others moved) own

-- the later part of a list
pub all_differ-back : (front back : List ℕ) → AllDiffer (front ++ back) → AllDiffer back
all_differ-back front back own i j d below within =
    let first : get_or (front ++ back) (length front + i) d ≡ get_or back i d = get_or-append-add front back i d in
    let second : get_or (front ++ back) (length front + j) d ≡ get_or back j d = get_or-append-add front back j d in
    rw (← first, ← second) (own (length front + i) (length front + j) d (omega arith) (omega (arith, length-append front back)))

pub own_ids-back : (front back : List Entry) → HaveOwnIds (front ++ back) → HaveOwnIds back
own_ids-back front back own = all_differ-back (ids_of front) (ids_of back) (rw (← map-append (λ entry. entry.id) front back) own)

-- the earlier part of a list
pub all_differ-front : (front back : List ℕ) → AllDiffer (front ++ back) → AllDiffer front
all_differ-front front back own i j d below within =
    rw (← get_or_append_left front back d i (omega arith), ← get_or_append_left front back d j within)
    (own i j d below (omega (arith, length-append front back)))

pub own_ids-front : (front back : List Entry) → HaveOwnIds (front ++ back) → HaveOwnIds front
own_ids-front front back own = all_differ-front (ids_of front) (ids_of back) (rw (← map-append (λ entry. entry.id) front back) own)
