-- What a search found, as the change that it leads to, and that each change keeps the clients in order.
use Rattle.std.proofs.Common.{if◌then◌else◌, not, true, false, ◌==◌, ◌≡◌, ℕ, ◌+◌, ◌-◌, ◌<◌, List, length, slice_index_or}
use Rattle.std.proofs.Common.{Bool, ◌&&◌, nat_lt, [], ◌∷◌, ◌++◌, filter, slice_set, map, Some, None, unwrap_or, refl, sym, ap, ◌∙◌, subst, suc, arith}
use Rattle.std.specs.List.{insert, remove, AllByRecursion, cons_option}
use Rattle.std.proofs.lemmas.List.{set_split, get_or-map, get_or_default, length-map}
use Rattle.std.proofs.lemmas.List.Kept.{AllPairs-filter, AllPairs-cons}
use Rattle.std.proofs.lemmas.List.Elements.{recursion_from_All, All-from_recursion}
use Rattle.std.proofs.lemmas.Bool.Decides.{nat_tests}
use Rattle.std.proofs.lemmas.List.Edits.{length-insert, get_or-insert_below, get_or-insert_at, get_or-insert_above}
use Rattle.client_messages.specs.declared.listener.Listener.{Listener}
use Rattle.client_messages.specs.declared.message.Message.{Message}
use Rattle.client_messages.specs.Listeners.{newcomer, client_at, IsRising, IsAt, IsGapFor, listener_of, placed, left, at_client}
use Rattle.client_messages.specs.Listeners.{takes, delivered, sent, notified, AreRising}
use Rattle.client_messages.proofs.Place.{only_at, listed_absent, left_absent, changed_absent, listed_only, left_only, changed_only}
use Rattle.client_messages.proofs.Place.{below_front, above_back, IsAbsent}

-- it is enough to compare the numbers in range
rising_from : (ls : List Listener) → ((i j : ℕ) → i < j → j < length ls → client_at ls i < client_at ls j) → IsRising ls
rising_from ls rises i j d lt in_range =
    rw (get_or_default ls i d (newcomer 0) (omega arith), get_or_default ls j d (newcomer 0) in_range) (rises i j lt in_range)

-- a change of each client that keeps its number keeps the order
pub rising_map : (f : Listener → Listener) → ((l : Listener) → (f l).client ≡ l.client) → (ls : List Listener) → IsRising ls
    → IsRising (map f ls)
rising_map f same ls rising = rising_from _ (λ i j lt in_range.
    let long = length-map ls f in
    let number = λ (l : Listener). l.client in
    let at : (k : ℕ) → k < length ls → client_at (map f ls) k ≡ client_at ls k =
    λ k lt. ap number (get_or-map f ls k (newcomer 0) (newcomer 0) lt) ∙ same (slice_index_or ls k (newcomer 0)) in
    grind (arith, at i, at j, rising i j (newcomer 0)))

same_number : (c : ℕ) (new : Listener) → new.client ≡ c → (l : Listener) → (at_client c (λ k. new) l).client ≡ l.client
same_number c new same l = grind (arith, nat_tests, same)

module _ (ls : List Listener) (rising : IsRising ls) (c i : ℕ) (is_at : IsAt ls c i) where
  pub listener_at : (d : Listener) → listener_of ls c ≡ slice_index_or ls i d
  listener_at d = ap (λ o. unwrap_or o (newcomer c)) (listed_only ls c i d is_at (only_at ls c i rising is_at))

  pub left_at : left ls c ≡ remove ls i
  left_at = left_only ls c i is_at (only_at ls c i rising is_at)

  pub changed_at : (d : Listener) (change : Listener → Listener)
      → map (at_client c change) ls ≡ slice_set ls i (change (slice_index_or ls i d))
  changed_at d change = changed_only ls c i d change is_at (only_at ls c i rising is_at)

  pub placed_at : (new : Listener) → new.client ≡ c → placed ls new ≡ slice_set ls i new
  placed_at new same =
      let below = below_front ls c i (λ j lt in_range. grind (arith, rising j i (newcomer 0) lt is_at.in_range, is_at.has_number))
      (λ j le in_range. grind (arith, rising i j (newcomer 0), is_at.has_number, in_range, le)) in
      let above = above_back ls c (suc i) (λ j lt in_range. grind (arith, rising j i (newcomer 0), is_at.in_range, is_at.has_number))
      (λ j le in_range. grind (arith, rising i j (newcomer 0), is_at.has_number)) in
      let parted : filter (λ l. nat_lt l.client c) ls ++ new ∷ filter (λ l. nat_lt c l.client) ls ≡ slice_set ls i new =
      rw (below, above) (sym (set_split ls i new is_at.in_range)) in
      ap (λ (n : ℕ). filter (λ l. nat_lt l.client n) ls ++ new ∷ filter (λ l. nat_lt n l.client) ls) same ∙ parted

  -- a client with that number in its place keeps the order
  pub rising_set : (new : Listener) → new.client ≡ c → IsRising (slice_set ls i new)
  rising_set new same =
      rw (← changed_at (newcomer 0) (λ l. new)) (rising_map (at_client c (λ l. new)) (same_number c new same) ls rising)

module _ (ls : List Listener) (c i : ℕ) (gap : IsGapFor ls c i) where
  absent : IsAbsent ls c
  absent = λ j lt same. grind (arith, gap.smaller_before j, gap.greater_after j)

  pub listener_gap : listener_of ls c ≡ newcomer c
  listener_gap = ap (λ o. unwrap_or o (newcomer c)) (listed_absent ls c absent)

  pub left_gap : left ls c ≡ ls
  left_gap = left_absent ls c absent

  pub changed_gap : (change : Listener → Listener) → map (at_client c change) ls ≡ ls
  changed_gap change = changed_absent ls c change absent

  pub placed_gap : (new : Listener) → new.client ≡ c → placed ls new ≡ insert ls i new
  placed_gap new same =
      let below = below_front ls c i (λ j lt in_range. gap.smaller_before j lt)
      (λ j le in_range. omega (arith, gap.greater_after j le in_range)) in
      let above = above_back ls c i (λ j lt in_range. omega (arith, gap.smaller_before j lt))
      (λ j le in_range. gap.greater_after j le in_range) in
      rw (same, below, above) refl

  pub rising_insert : (new : Listener) → new.client ≡ c → IsRising ls → IsRising (insert ls i new)
  rising_insert new same rising = rising_from _ (λ j k lt in_range.
      let all = insert ls i new in
      let number = λ (l : Listener). l.client in
      let length_new = length-insert ls i new gap.in_range in
      let below : (j : ℕ) → j < i → client_at all j ≡ client_at ls j =
      λ j below. ap number (get_or-insert_below ls i new (newcomer 0) j below gap.in_range) in
      let here : (j : ℕ) → j ≡ i → client_at all j ≡ c =
      λ j here. rw here (ap number (get_or-insert_at ls i new (newcomer 0) gap.in_range) ∙ same) in
      let above : (j : ℕ) → i < j → client_at all j ≡ client_at ls (j - 1) =
      λ j above. subst (λ q. client_at all q ≡ client_at ls (j - 1)) {x = j - 1 + 1} (omega arith)
      (ap number (get_or-insert_above ls i new (newcomer 0) (j - 1) (omega arith) gap.in_range)) in
      grind (
        arith,
        below j,
        here j,
        above j,
        below k,
        here k,
        above k,
        rising j k (newcomer 0),
        rising j (k - 1) (newcomer 0),
        rising (j - 1) (k - 1) (newcomer 0),
        gap.smaller_before j,
        gap.greater_after (k - 1),
      ))

pub rising_left : (ls : List Listener) (c : ℕ) → IsRising ls → IsRising (left ls c)
rising_left ls c = AllPairs-filter (λ (l k : Listener). l.client < k.client) (λ l. not (l.client == c)) ls

pub rising_sent : (ls : List Listener) (m : Message) → IsRising ls → IsRising (sent ls m)
rising_sent ls m = rising_map (delivered m) (λ l. elim (takes m l) as
    (λ b. (let k : Listener = if b then record l { unread = l.unread ++ m ∷ [] } else l in k.client) ≡ l.client)
    [ true ↦ refl | false ↦ refl ]) ls

-- a number below those of the clients is below the numbers of those that are to be told
pub all_notified_above : (c : ℕ) (m : Message) (ls : List Listener) → AllByRecursion (λ l. c < l.client) ls
    → AllByRecursion (λ d. c < d) (notified ls m)
all_notified_above c m [] above = tt
all_notified_above c m (l ∷ ls) above = with_one (takes m l && (length l.unread == 0)) (all_notified_above c m ls above.1)
  where
    with_one : (b : Bool) → AllByRecursion (λ d. c < d) (notified ls m)
        → AllByRecursion (λ d. c < d) (cons_option (if b then Some l.client else None) (notified ls m))
    with_one true rest = (above.0, rest)
    with_one false rest = rest

-- those that are to be told come in the order of the clients
pub notified_rising : (ls : List Listener) (m : Message) → IsRising ls → AreRising (notified ls m)
notified_rising [] m rising = λ i j d lt in_range. absurd (omega arith)
notified_rising (l ∷ ls) m rising =
    with_one (takes m l && (length l.unread == 0))
    (notified_rising ls m (λ i j d lt in_range. rising (suc i) (suc j) d (omega arith) (omega arith)))
  where
    later : AllByRecursion (λ k. l.client < k.client) ls
    later = recursion_from_All (λ (k : Listener). l.client < k.client) ls (λ k d lt. rising 0 (suc k) d (omega arith) (omega arith))

    with_one : (b : Bool) → AreRising (notified ls m) → AreRising (cons_option (if b then Some l.client else None) (notified ls m))
    with_one true rest = AllPairs-cons (λ (c d : ℕ). c < d) l.client (notified ls m)
        (All-from_recursion (λ (c : ℕ). l.client < c) (notified ls m) (all_notified_above l.client m ls later)) rest
    with_one false rest = rest
