-- Some entries are brought to the front of a list, one by one.
use Rattle.std.proofs.Common.{◌≡◌, ℕ, ◌+◌, ◌-◌, ◌<◌, ◌≤◌, ◌⊎◌, inl, inr, Bool, true, false, List, [], ◌∷◌, ◌++◌, length, get_or, set, take, drop}
use Rattle.std.proofs.Common.{filter, refl, sym, ap, ◌∙◌, arith, add-one, drop-cons}
use Rattle.std.specs.List.{swap}
use Rattle.std.proofs.lemmas.Bool.{cases_lt}
use Rattle.std.proofs.lemmas.List.{take_more_set, take-set, take-set-le, drop-set-lt, length-set, length-drop, length-take-le, append-nil, take-append-le}
use Rattle.std.proofs.lemmas.List.{drop-set-add, get_or-drop, take-append-drop, take_all}
use Rattle.std.proofs.Math.Seq.{take-append-add}
use Rattle.std.proofs.lemmas.List.Edits.{swap_is, length-swap}
use Rattle.std.proofs.lemmas.List.Elements.{filter_more}
use Rattle.play_queue.specs.declared.entry.Entry.{Entry}

-- the element at a place is brought to the end of those in front
swapped_front : (l : List Entry) (count at : ℕ) (d : Entry) → count ≤ at → at < length l
    → take (count + 1) (swap l count at) ≡ take count l ++ get_or l at d ∷ []
swapped_front l count at d below within = rw (← swap_is l count at d (omega arith) within) (of (cases_lt count at))
  where
    of : (count < at) ⊎ (at ≤ count) → take (count + 1) (set (set l count (get_or l at d)) at (get_or l count d)) ≡ take count l ++ get_or l
        at d ∷ []
    of (inl less) = take-set-le (count + 1) (set l count (get_or l at d)) at (get_or l count d) (omega arith)
        ∙ take_more_set l count (get_or l at d) (omega arith)
    of (inr equal) = let same : count ≡ at = omega arith in
        rw same (take_more_set (set l at (get_or l at d)) at (get_or l at d) (omega (arith, length-set l at (get_or l at d)))
        ∙ ap (λ front. front ++ get_or l at d ∷ []) (take-set l at (get_or l at d)))

swapped_back : (l : List Entry) (count at : ℕ) (d : Entry) → count ≤ at → at < length l → drop (at + 1) (swap l count at) ≡ drop (at + 1) l
swapped_back l count at d below within =
    rw (← swap_is l count at d (omega arith) within) (drop-set-lt (at + 1) (set l count (get_or l at d)) at (get_or l count d) (omega arith)
    ∙ drop-set-lt (at + 1) l count (get_or l at d) (omega arith))

-- so far the first ones are those of the front that pass, and the rest is as it was
pub record IsCompacted (test : Entry → Bool) (before now : List Entry) (count at : ℕ) : Type 0 where
  pub few : count ≤ at
  pub long : length now ≡ length before
  pub front : take count now ≡ filter test (take at before)
  pub rest : drop at now ≡ drop at before

record Heads (one other : Entry) (ones others : List Entry) : Type 0 where
  pub head : one ≡ other
  pub tail : ones ≡ others

heads : (one other : Entry) (ones others : List Entry) → one ∷ ones ≡ other ∷ others → Heads one other ones others
heads one other ones others same = record { head = cc; tail = cc }

-- the next entry, and those behind it
ahead : (test : Entry → Bool) (before now : List Entry) (count at : ℕ) (d : Entry) → IsCompacted test before now count at
    → at < length before
    → Heads (get_or now at d) (get_or before at d) (drop (at + 1) now) (drop (at + 1) before)
ahead test before now count at d so_far within =
    heads _ _ _ _ (rw (add-one at) (sym (drop-cons now at d (omega (arith, so_far.long))) ∙ so_far.rest ∙ drop-cons before at d within))

-- one that passes comes to the front
pub step_taken : (test : Entry → Bool) (before now : List Entry) (count at : ℕ) (d : Entry) → IsCompacted test before now count at
    → at < length before → test (get_or now at d) ≡ true
    → IsCompacted test before (swap now count at) (count + 1) (at + 1)
step_taken test before now count at d so_far within passes =
    let next = ahead test before now count at d so_far within in
    let inside : at < length now = omega (arith, so_far.long) in
    let more : filter test (take (at + 1) before) ≡ filter test (take at before) ++ get_or now at d ∷ [] =
    filter_more test before at d within ∙ rw (← next.head, passes) refl in
    record {
      few = omega (arith, so_far.few);
      long = length-swap now count at ∙ so_far.long;
      front = swapped_front now count at d so_far.few inside ∙ rw so_far.front (sym more);
      rest = swapped_back now count at d so_far.few inside ∙ next.tail;
    }

-- another one stays where it is
pub step_left : (test : Entry → Bool) (before now : List Entry) (count at : ℕ) (d : Entry) → IsCompacted test before now count at
    → at < length before → test (get_or now at d) ≡ false
    → IsCompacted test before now count (at + 1)
step_left test before now count at d so_far within fails =
    let next = ahead test before now count at d so_far within in
    record {
      few = omega (arith, so_far.few);
      long = so_far.long;
      front = so_far.front
          ∙ sym (filter_more test before at d within ∙ rw (← next.head, fails) (append-nil (filter test (take at before))));
      rest = next.tail;
    }

-- the first ones of what stands behind a front
pub take_both : (front slice post : List Entry) (first count : ℕ) → length front ≡ first → count ≤ length slice
    → take (first + count) (front ++ (slice ++ post)) ≡ front ++ take count slice
take_both front slice post first count long within = rw (← long) (take-append-add front (slice ++ post) count)
    ∙ ap (λ l. front ++ l) (take-append-le count slice post within)

-- the same behind a front that isn't touched
pub record IsCompactedFrom (test : Entry → Bool) (first : ℕ) (before now : List Entry) (count at : ℕ) : Type 0 where
  pub low : first ≤ count
  pub front : take first now ≡ take first before
  pub behind : IsCompacted test (drop first before) (drop first now) (count - first) (at - first)

swap-behind : (l : List Entry) (first i j : ℕ) (d : Entry) → first + i < length l → first + j < length l
    → drop first (swap l (first + i) (first + j)) ≡ swap (drop first l) i j
swap-behind l first i j d in_i in_j =
    let long : length (drop first l) ≡ length l - first = length-drop first l in
    rw (← swap_is l (first + i) (first + j) d in_i in_j, ← swap_is (drop first l) i j d (omega arith) (omega arith))
    (drop-set-add first (set l (first + i) (get_or l (first + j) d)) j (get_or l (first + i) d)
    ∙ ap (λ m. set m j (get_or l (first + i) d)) (drop-set-add first l i (get_or l (first + j) d))
    ∙ rw (get_or-drop first l i d, get_or-drop first l j d) refl)

swap-front : (l : List Entry) (first i j : ℕ) (d : Entry) → first + i < length l → first + j < length l
    → take first (swap l (first + i) (first + j)) ≡ take first l
swap-front l first i j d in_i in_j =
    rw (← swap_is l (first + i) (first + j) d in_i in_j)
    (take-set-le first (set l (first + i) (get_or l (first + j) d)) (first + j) (get_or l (first + i) d) (omega arith)
    ∙ take-set-le first l (first + i) (get_or l (first + j) d) (omega arith))

pub taken_from : (test : Entry → Bool) (first : ℕ) (before now : List Entry) (count at : ℕ) (d : Entry)
    → IsCompactedFrom test first before now count at → first ≤ at → at < length now → test (get_or now at d) ≡ true
    → IsCompactedFrom test first before (swap now count at) (count + 1) (at + 1)
taken_from test first before now count at d so_far from within passes =
    let i : ℕ = count - first in
    let j : ℕ = at - first in
    let at_i : first + i ≡ count = omega (arith, so_far.low) in
    let at_j : first + j ≡ at = omega arith in
    let low : count ≤ at = omega (arith, so_far.low, so_far.behind.few) in
    let long : length (drop first now) ≡ length now - first = length-drop first now in
    let read : get_or (drop first now) j d ≡ get_or now at d = get_or-drop first now j d ∙ ap (λ k. get_or now k d) at_j in
    let step = step_taken test (drop first before) (drop first now) i j d so_far.behind (omega (arith, so_far.behind.long))
    (ap test read ∙ passes) in
    let moved : drop first (swap now count at) ≡ swap (drop first now) i j =
    rw (at_i, at_j) at (swap-behind now first i j d (omega arith) (omega arith)) in
    let stays : take first (swap now count at) ≡ take first now =
    rw (at_i, at_j) at (swap-front now first i j d (omega arith) (omega arith)) in
    let next_i : count + 1 - first ≡ i + 1 = omega (arith, so_far.low) in
    let next_j : at + 1 - first ≡ j + 1 = omega arith in
    record {
      low = omega (arith, so_far.low);
      front = stays ∙ so_far.front;
      behind = rw (moved, next_i, next_j) step;
    }

pub left_from : (test : Entry → Bool) (first : ℕ) (before now : List Entry) (count at : ℕ) (d : Entry)
    → IsCompactedFrom test first before now count at → first ≤ at → at < length now → test (get_or now at d) ≡ false
    → IsCompactedFrom test first before now count (at + 1)
left_from test first before now count at d so_far from within fails =
    let j : ℕ = at - first in
    let at_j : first + j ≡ at = omega arith in
    let long : length (drop first now) ≡ length now - first = length-drop first now in
    let read : get_or (drop first now) j d ≡ get_or now at d = get_or-drop first now j d ∙ ap (λ k. get_or now k d) at_j in
    let step = step_left test (drop first before) (drop first now) (count - first) j d so_far.behind (omega (arith, so_far.behind.long))
    (ap test read ∙ fails) in
    let next_j : at + 1 - first ≡ j + 1 = omega arith in
    record {
      low = so_far.low;
      front = so_far.front;
      behind = rw next_j step;
    }

pub begun_from : (test : Entry → Bool) (first : ℕ) (before : List Entry) → IsCompactedFrom test first before before first first
begun_from test first before =
    let none : first - first ≡ 0 = omega arith in
    record {
      low = omega arith;
      front = refl;
      behind = rw none (record { few = omega arith; long = refl; front = refl; rest = refl });
    }

pub all_from : (test : Entry → Bool) (first : ℕ) (before now : List Entry) (count at : ℕ)
    → IsCompactedFrom test first before now count at → first ≤ at → at ≡ length now → first ≤ length now
    → take count now ≡ take first before ++ filter test (drop first before)
all_from test first before now count at so_far from all within =
    let i : ℕ = count - first in
    let at_i : first + i ≡ count = omega (arith, so_far.low) in
    let long : length (drop first now) ≡ length now - first = length-drop first now in
    let in_front : length (take first now) ≡ first = length-take-le first now within in
    let parts : take (first + i) (take first now ++ (drop first now ++ [])) ≡ take first now ++ take i (drop first now) =
    take_both (take first now) (drop first now) [] first i in_front (omega (arith, so_far.low, so_far.behind.few)) in
    let whole : take first now ++ (drop first now ++ []) ≡ now =
    ap (λ l. take first now ++ l) (append-nil (drop first now)) ∙ take-append-drop first now in
    let every : take (at - first) (drop first before) ≡ drop first before =
    take_all (at - first) (drop first before) (omega (arith, so_far.behind.long)) in
    rw (whole, at_i) at parts ∙ rw (so_far.front, so_far.behind.front, every) refl
