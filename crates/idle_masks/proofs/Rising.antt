-- What a search found, as the change that it leads to, and that each change keeps the clients in order.
use Rattle.std.proofs.Common.{if◌then◌else◌, not, Bool, [], true, false, ◌==◌, ◌≡◌, ℕ, ◌+◌, ◌-◌, ◌<◌, List, ◌∷◌, length, slice_index_or}
use Rattle.std.proofs.Common.{slice_set, map, Option, Some, None, refl, sym, ap, ◌∙◌, subst, suc, arith}
use Rattle.std.specs.List.{insert, remove, AllByRecursion, cons_option}
use Rattle.std.proofs.lemmas.List.{set_split, get_or-map, get_or_default, length-map}
use Rattle.std.proofs.lemmas.List.Kept.{AllPairs-filter, AllPairs-cons}
use Rattle.std.proofs.lemmas.List.Elements.{recursion_from_All, All-from_recursion}
use Rattle.std.proofs.lemmas.List.Edits.{length-insert, get_or-insert_below, get_or-insert_at, get_or-insert_above}
use Rattle.idle_masks.specs.declared.subsystem.Subsystems.{Subsystems}
use Rattle.idle_masks.specs.declared.ready.Report.{Report}
use Rattle.idle_masks.specs.declared.watch.Watched.{Watched}
use Rattle.idle_masks.specs.Watched.{newcomer, client_at, IsRising, IsAt, IsGapFor, watched, joined, left, marked, grown, told_to_wait}
use Rattle.idle_masks.specs.Watched.{with_waiting, after_reports, reported, due, reports_of, AreRising, nat_among, grown_among, marked_some}
use Rattle.idle_masks.specs.Subsystems.{is_empty, difference}
use Rattle.idle_masks.proofs.Place.{only_at, watched_absent, watched_only, left_only, with_waiting_only, below_front, above_back}

-- it is enough to compare the numbers in range
rising_from : (ws : List Watched) → ((i j : ℕ) → i < j → j < length ws → client_at ws i < client_at ws j) → IsRising ws
rising_from ws rises i j d lt in_range =
    rw (get_or_default ws i d (newcomer 0) (omega arith), get_or_default ws j d (newcomer 0) in_range) (rises i j lt in_range)

module _ (ws : List Watched) (rising : IsRising ws) (c i : ℕ) (is_at : IsAt ws c i) where
  pub watched_at : (d : Watched) → watched ws c ≡ Some (slice_index_or ws i d)
  watched_at d = watched_only ws c i d is_at (only_at ws c i rising is_at)

  pub left_at : left ws c ≡ remove ws i
  left_at = left_only ws c i is_at (only_at ws c i rising is_at)

  pub with_waiting_at : (d : Watched) (mask : Option Subsystems)
      → with_waiting ws c mask ≡ slice_set ws i (record (slice_index_or ws i d) { waiting = mask })
  with_waiting_at d mask = with_waiting_only ws c i d mask is_at (only_at ws c i rising is_at)

  pub joined_at : joined ws c ≡ slice_set ws i (newcomer c)
  joined_at =
      let below = below_front ws c i (λ j lt in_range. grind (arith, rising j i (newcomer 0) lt is_at.in_range, is_at.has_number))
      (λ j le in_range. grind (arith, rising i j (newcomer 0), is_at.has_number, in_range, le)) in
      let above = above_back ws c (suc i) (λ j lt in_range. grind (arith, rising j i (newcomer 0), is_at.in_range, is_at.has_number))
      (λ j le in_range. grind (arith, rising i j (newcomer 0), is_at.has_number)) in
      rw (below, above) (sym (set_split ws i (newcomer c) is_at.in_range))

module _ (ws : List Watched) (c i : ℕ) (gap : IsGapFor ws c i) where
  pub watched_gap : watched ws c ≡ None
  watched_gap = watched_absent ws c (λ j lt same. grind (arith, gap.smaller_before j, gap.greater_after j))

  pub joined_gap : joined ws c ≡ insert ws i (newcomer c)
  joined_gap =
      let below = below_front ws c i (λ j lt in_range. gap.smaller_before j lt)
      (λ j le in_range. omega (arith, gap.greater_after j le in_range)) in
      let above = above_back ws c i (λ j lt in_range. omega (arith, gap.smaller_before j lt))
      (λ j le in_range. gap.greater_after j le in_range) in
      rw (below, above) refl

  pub rising_insert : IsRising ws → IsRising (insert ws i (newcomer c))
  rising_insert rising = rising_from _ (λ j k lt in_range.
      let new = insert ws i (newcomer c) in
      let number = λ (w : Watched). w.client in
      let length_new = length-insert ws i (newcomer c) gap.in_range in
      let below : (j : ℕ) → j < i → client_at new j ≡ client_at ws j =
      λ j below. ap number (get_or-insert_below ws i (newcomer c) (newcomer 0) j below gap.in_range) in
      let here : (j : ℕ) → j ≡ i → client_at new j ≡ c =
      λ j here. rw here (ap number (get_or-insert_at ws i (newcomer c) (newcomer 0) gap.in_range)) in
      let above : (j : ℕ) → i < j → client_at new j ≡ client_at ws (j - 1) =
      λ j above. subst (λ q. client_at new q ≡ client_at ws (j - 1)) {x = j - 1 + 1} (omega arith)
      (ap number (get_or-insert_above ws i (newcomer c) (newcomer 0) (j - 1) (omega arith) gap.in_range)) in
      grind (
        arith,
        below j,
        here j,
        above j,
        below k,
        here k,
        above k,
        rising j k (newcomer 0),
        rising j (k - 1) (newcomer 0),
        rising (j - 1) (k - 1) (newcomer 0),
        gap.smaller_before j,
        gap.greater_after (k - 1),
      ))

-- a change of each client that keeps its number keeps the order
rising_map : (f : Watched → Watched) → ((w : Watched) → (f w).client ≡ w.client) → (ws : List Watched) → IsRising ws → IsRising (map f ws)
rising_map f same ws rising = rising_from _ (λ i j lt in_range.
    let long = length-map ws f in
    let number = λ (w : Watched). w.client in
    let at : (k : ℕ) → k < length ws → client_at (map f ws) k ≡ client_at ws k =
    λ k lt. ap number (get_or-map f ws k (newcomer 0) (newcomer 0) lt) ∙ same (slice_index_or ws k (newcomer 0)) in
    grind (arith, at i, at j, rising i j (newcomer 0)))

pub rising_with_waiting : (ws : List Watched) (c : ℕ) (mask : Option Subsystems) → IsRising ws → IsRising (with_waiting ws c mask)
rising_with_waiting ws c mask =
    rising_map (told_to_wait c mask)
    (λ w. elim (w.client == c) as (λ b. (let v : Watched = if b then record w { waiting = mask } else w in v.client) ≡ w.client)
    [ true ↦ refl | false ↦ refl ]) ws

pub rising_left : (ws : List Watched) (c : ℕ) → IsRising ws → IsRising (left ws c)
rising_left ws c = AllPairs-filter (λ (v w : Watched). v.client < w.client) (λ w. not (w.client == c)) ws

pub rising_marked : (ws : List Watched) (changed : Subsystems) → IsRising ws → IsRising (marked ws changed)
rising_marked ws changed = rising_map (grown changed) (λ w. refl) ws

pub rising_marked_some : (ws : List Watched) (clients : List ℕ) (changed : Subsystems) → IsRising ws → IsRising (marked_some ws clients changed)
rising_marked_some ws clients changed = rising_map (grown_among clients changed) (λ w. elim (nat_among w.client clients) as
    (λ b. (let v : Watched = if b then grown changed w else w in v.client) ≡ w.client)
    [ true ↦ refl | false ↦ refl ]) ws

pub rising_after_reports : (ws : List Watched) → IsRising ws → IsRising (after_reports ws)
rising_after_reports ws =
    rising_map reported (λ w. elim (is_empty (due w)) as
    (λ b. (let v : Watched = if b then w else record w { pending = difference w.pending (due w); waiting = None } in v.client) ≡ w.client)
    [ true ↦ refl | false ↦ refl ]) ws

-- a number below those of the clients is below those of their reports
all_reports_above : (c : ℕ) (ws : List Watched) → AllByRecursion (λ w. c < w.client) ws → AllByRecursion (λ r. c < r.client) (reports_of ws)
all_reports_above c [] above = tt
all_reports_above c (w ∷ ws) above = with_one (is_empty (due w)) (all_reports_above c ws above.1)
  where
    with_one : (b : Bool) → AllByRecursion (λ r. c < r.client) (reports_of ws)
        → AllByRecursion (λ r. c < r.client)
        (cons_option (if b then None else Some (record { client = w.client; changed = due w })) (reports_of ws))
    with_one true rest = rest
    with_one false rest = (above.0, rest)

-- the reports come in the order of the clients
pub reports_rising : (ws : List Watched) → IsRising ws → AreRising (reports_of ws)
reports_rising [] rising = λ i j d lt in_range. absurd (omega arith)
reports_rising (w ∷ ws) rising =
    with_one (is_empty (due w)) (reports_rising ws (λ i j d lt in_range. rising (suc i) (suc j) d (omega arith) (omega arith)))
  where
    later : AllByRecursion (λ v. w.client < v.client) ws
    later = recursion_from_All (λ (v : Watched). w.client < v.client) ws (λ k d lt. rising 0 (suc k) d (omega arith) (omega arith))

    with_one : (b : Bool) → AreRising (reports_of ws)
        → AreRising (cons_option (if b then None else Some (record { client = w.client; changed = due w })) (reports_of ws))
    with_one true rest = rest
    with_one false rest = AllPairs-cons (λ (r s : Report). r.client < s.client) (record { client = w.client; changed = due w })
        (reports_of ws) (All-from_recursion (λ (r : Report). w.client < r.client) (reports_of ws) (all_reports_above w.client ws later))
        rest
