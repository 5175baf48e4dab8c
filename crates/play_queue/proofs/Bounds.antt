-- No entry has a later stamp than its block, after each edit and its stamps.
use Rattle.std.proofs.Common.{◌≡◌, ◌≢◌, ℕ, zero, suc, ◌+◌, ◌-◌, ◌/◌, ◌<◌, ◌≤◌, Bool, true, false, cond, not, ◌==◌, ◌||◌, ◌⊎◌, inl, inr, List, [], ◌∷◌, ◌++◌}
use Rattle.std.proofs.Common.{length, get_or, map, take, drop, replicate, slice_range, refl, sym, ap, ◌∙◌, arith}
use borrow.Rule.Slice.PartMut.{put_mid}
use Rattle.std.specs.List.{swap}
use Rattle.std.specs.List.Sorted.{IsPermutation}
use Rattle.std.proofs.lemmas.Bool.{cases_eq, cases_lt, eq-eqb, eqb-false, eqb-true}
use Rattle.std.proofs.lemmas.List.{get_or_append_left, get_or-append_right, get_or-take, get_or-drop, get_or-map, get_or-replicate}
use Rattle.std.proofs.lemmas.List.{length-append, length-map, length-take-le, length-drop, take_at, drop_at, take-append-drop}
use Rattle.std.proofs.lemmas.List.Edits.{Swapped, swapped_from_swap, length-swap, length-between, get_or-between}
use Rattle.std.proofs.lemmas.List.Filters.{length-filter_both}
use Rattle.std.proofs.lemmas.List.Sorted.{length_permutation}
use Rattle.std.proofs.lemmas.Nat.{div_below}
use Rattle.play_queue.specs.declared.entry.Entry.{Entry}
use Rattle.play_queue.specs.Limits.{BLOCKS, MAX_ENTRIES, MAX_VERSION, SPAN}
use Rattle.play_queue.specs.Entries.{Uris, is_among, is_in_some, deleted, added, new_entries, kept}
use Rattle.play_queue.specs.Latest.{latest_at, AreLatest, AreRaised, AreRestamped, Between, Either}
use Rattle.play_queue.specs.Queue.{HaveOwnIds, ids_of, with_stamp}
use Rattle.play_queue.specs.Restamp.{exchanged, marked, raised, raised_in, reprioritized, restamped, restamped_batch, restamped_pair, stamped_where}
use Rattle.play_queue.specs.Shuffle.{shuffled, sorted_by_words, stamped_moved, restamped_moved}
use Rattle.play_queue.proofs.Added.{length-new_entries}
use Rattle.play_queue.proofs.Moved.{SameById, same_by_id, shuffled-block, shuffled-permutes, sorted-permutes}
use Rattle.play_queue.proofs.Prioritized.{in_range, length-changed_in, length-mid, raised_range, range_parts}
use Rattle.play_queue.proofs.Shuffled.{own_ids-block}
use Rattle.play_queue.proofs.Where.{get_or-stamped_where, length-stamped_where, not_eq}

-- each position has the new stamp, and is among those raised, or it has the stamp that stood there
abbrev pub Follow : (ℕ → Type 0) → ℕ → List Entry → List Entry → Type 0
Follow Raised stamp befores afters =
    (k : ℕ) (d : Entry) → k < length afters
    → (Raised k × ((get_or afters k d).stamp ≡ stamp)) ⊎ ((k < length befores)
    × ((get_or afters k d).stamp ≡ (get_or befores k d).stamp))

pub latest-follow : (latest later : List ℕ) (Raised : ℕ → Type 0) (stamp : ℕ) (befores afters : List Entry) → AreLatest latest befores
    → AreRaised latest later Raised stamp → Follow Raised stamp befores afters → AreLatest later afters
latest-follow latest later Raised stamp befores afters before raises follow k d within = by_cases (follow k d within)
  where
    by_cases : (Raised k × ((get_or afters k d).stamp ≡ stamp)) ⊎ ((k < length befores)
        × ((get_or afters k d).stamp ≡ (get_or befores k d).stamp)) → (get_or afters k d).stamp ≤ latest_at later k
    by_cases (inl new) = omega (arith, new.1, raises.raised k new.0)
    by_cases (inr old) = omega (arith, old.1, before k d old.0, raises.grown k)

-- all stamps are 1
pub latest-begun : (later : List ℕ) (entries : List Entry) → later ≡ replicate BLOCKS 1 → length entries ≤ MAX_ENTRIES
    → AreLatest later (map (with_stamp 1) entries)
latest-begun later entries begun few k d within =
    let inside : k < length entries = omega (arith, length-map entries (with_stamp 1)) in
    let stamp : (get_or (map (with_stamp 1) entries) k d).stamp ≡ 1 =
    ap (λ (e : Entry). e.stamp) (get_or-map (with_stamp 1) entries k d d inside) in
    let bound : latest_at later k ≡ 1 =
    ap (λ l. get_or l (k / SPAN) 0) begun ∙ get_or-replicate BLOCKS (k / SPAN) 1 0 (div_below k BLOCKS SPAN (omega arith) (omega arith)) in
    omega arith

-- the stamps that follow a version
pub latest-restamped : (latest later : List ℕ) (Raised : ℕ → Type 0) (version : ℕ) (befores entries afters : List Entry)
    → AreLatest latest befores → AreRestamped latest later Raised version → length entries ≤ MAX_ENTRIES
    → Follow Raised (version + 1) befores afters
    → AreLatest later (cond (version == MAX_VERSION) (map (with_stamp 1) entries) afters)
latest-restamped latest later Raised version befores entries afters before stamps few follow = of (version == MAX_VERSION) refl
  where
    of : (b : Bool) → (version == MAX_VERSION) ≡ b → AreLatest later (cond b (map (with_stamp 1) entries) afters)
    of true is = latest-begun later entries (stamps.begun (eqb-true version MAX_VERSION is)) few
    of false is = latest-follow latest later Raised (version + 1) befores afters before
        (stamps.raised (eqb-false version MAX_VERSION is)) follow

-- a list with another middle
long_part : (entries middle : List Entry) (start end : ℕ) → start ≤ end → end ≤ length entries → length middle ≡ end - start
    → length (take start entries ++ (middle ++ drop end entries)) ≡ length entries
long_part entries middle start end forward within long =
    omega (
      arith,
      length-append (take start entries) (middle ++ drop end entries),
      length-append middle (drop end entries),
      length-take-le start entries (omega arith),
      length-drop end entries,
    )

part_front : (entries middle : List Entry) (start end k : ℕ) (d : Entry) → start ≤ length entries → k < start
    → get_or (take start entries ++ (middle ++ drop end entries)) k d ≡ get_or entries k d
part_front entries middle start end k d within below =
    get_or_append_left (take start entries) (middle ++ drop end entries) d k (omega (arith, length-take-le start entries within))
    ∙ get_or-take start entries k d below

part_middle : (entries middle : List Entry) (start end k : ℕ) (d : Entry) → start ≤ end → end ≤ length entries
    → length middle ≡ end - start → start ≤ k → k < end
    → get_or (take start entries ++ (middle ++ drop end entries)) k d ≡ get_or middle (k - start) d
part_middle entries middle start end k d forward within long from below =
    get_or-append_right (take start entries) (middle ++ drop end entries) start k d (length-take-le start entries (omega arith)) from
    ∙ get_or_append_left middle (drop end entries) d (k - start) (omega arith)

part_back : (entries middle : List Entry) (start end k : ℕ) (d : Entry) → start ≤ end → end ≤ length entries
    → length middle ≡ end - start → end ≤ k → get_or (take start entries ++ (middle ++ drop end entries)) k d ≡ get_or entries k d
part_back entries middle start end k d forward within long from =
    get_or-append_right (take start entries) (middle ++ drop end entries) start k d (length-take-le start entries (omega arith))
    (omega arith)
    ∙ get_or-append_right middle (drop end entries) (end - start) (k - start) d long (omega arith)
    ∙ get_or-drop end entries ((k - start) - (end - start)) d ∙ ap (λ j. get_or entries j d) (omega arith)

-- outside a range stands what stood there
abbrev pub SameBut : ℕ → ℕ → List Entry → List Entry → Type 0
SameBut start end befores entries =
    (k : ℕ) (d : Entry) → k < length entries → (k < start) ⊎ (end ≤ k) → (k < length befores) × (get_or entries k d ≡ get_or befores k d)

pub follow-part : (stamp start end : ℕ) (befores entries : List Entry) → start ≤ end → end ≤ length entries
    → SameBut start end befores entries → Follow (Between start end) stamp befores
    (take start entries ++ (map (with_stamp stamp) (slice_range entries start end) ++ drop end entries))
follow-part stamp start end befores entries forward within same k d inside =
    let part : List Entry = slice_range entries start end in
    let middle : List Entry = map (with_stamp stamp) part in
    let long_of_part : length part ≡ end - start = length-between entries start end within in
    let long : length middle ≡ end - start = length-map part (with_stamp stamp) ∙ long_of_part in
    let whole : length (take start entries ++ (middle ++ drop end entries)) ≡ length entries =
    long_part entries middle start end forward within long in
    by_cases part middle long_of_part long (omega arith) (cases_lt k start) (cases_lt k end)
  where
    by_cases : (part middle : List Entry) → length part ≡ end - start → length middle ≡ end - start → k < length entries
        → (k < start) ⊎ (start ≤ k) → (k < end) ⊎ (end ≤ k)
        → (Between start end k × ((get_or (take start entries
        ++ (map (with_stamp stamp) (slice_range entries start end) ++ drop end entries)) k d).stamp ≡ stamp)) ⊎ ((k < length befores)
        × ((get_or (take start entries ++ (map (with_stamp stamp) (slice_range entries start end) ++ drop end entries)) k d).stamp
        ≡ (get_or befores k d).stamp))
    by_cases part middle long_of_part long in_entries (inl below) either =
        let kept_there = same k d in_entries (inl below) in
        inr (
          kept_there.0,
          ap (λ (e : Entry). e.stamp)
              (part_front entries (map (with_stamp stamp) (slice_range entries start end)) start end k d (omega arith) below ∙ kept_there.1),
        )
    by_cases part middle long_of_part long in_entries (inr from) (inr behind) =
        let kept_there = same k d in_entries (inr behind) in
        inr (
          kept_there.0,
          ap (λ (e : Entry). e.stamp)
              (part_back entries (map (with_stamp stamp) (slice_range entries start end)) start end k d forward within
              (length-map (slice_range entries start end) (with_stamp stamp) ∙ length-between entries start end within) behind ∙ kept_there.1),
        )
    by_cases part middle long_of_part long in_entries (inr from) (inl below) =
        inl (
          (from, below),
          ap (λ (e : Entry). e.stamp)
              (part_middle entries (map (with_stamp stamp) (slice_range entries start end)) start end k d forward within
              (length-map (slice_range entries start end) (with_stamp stamp) ∙ length-between entries start end within) from below
              ∙ get_or-map (with_stamp stamp) (slice_range entries start end) (k - start) d d
              (omega (arith, length-between entries start end within))),
        )

-- a range whose entries stay or get the stamp
pub follow-raised : (priority stamp : ℕ) (range : ℕ × ℕ) (entries : List Entry) → range.0 ≤ range.1 → range.1 ≤ length entries
    → Follow (Between range.0 range.1) stamp entries
    (put_mid range.0 (range.1 - range.0) entries (map (raised priority stamp) (slice_range entries range.0 range.1)))
follow-raised priority stamp range entries forward within k d inside =
    let part : List Entry = slice_range entries range.0 range.1 in
    let long : length (map (raised priority stamp) part) ≡ range.1 - range.0 =
    length-map part (raised priority stamp) ∙ length-between entries range.0 range.1 within in
    let whole : length (put_mid range.0 (range.1 - range.0) entries (map (raised priority stamp) part)) ≡ length entries =
    length-mid range.0 (range.1 - range.0) entries (map (raised priority stamp) part) (omega arith) long in
    let in_entries : k < length entries = omega arith in
    of (in_range range k) refl in_entries (raised_range entries range priority stamp k d forward within in_entries)
  where
    one : (e : Entry) → ((raised priority stamp e).stamp ≡ stamp) ⊎ ((raised priority stamp e).stamp ≡ e.stamp)
    one e = by_priority (e.priority == priority)
      where
        by_priority : (b : Bool) → ((cond b e (record e { priority = priority; stamp = stamp })).stamp ≡ stamp)
            ⊎ ((cond b e (record e { priority = priority; stamp = stamp })).stamp ≡ e.stamp)
        by_priority true = inr refl
        by_priority false = inl refl

    now : Entry
    now = get_or (put_mid range.0 (range.1 - range.0) entries (map (raised priority stamp) (slice_range entries range.0 range.1))) k d

    of : (b : Bool) → in_range range k ≡ b → k < length entries
        → now ≡ cond b (raised priority stamp (get_or entries k d)) (get_or entries k d)
        → (Between range.0 range.1 k × (now.stamp ≡ stamp)) ⊎ ((k < length entries) × (now.stamp ≡ (get_or entries k d).stamp))
    of false is in_entries read = inr (in_entries, ap (λ (e : Entry). e.stamp) read)
    of true is in_entries read = by_stamp (one (get_or entries k d))
      where
        by_stamp : ((raised priority stamp (get_or entries k d)).stamp ≡ stamp)
            ⊎ ((raised priority stamp (get_or entries k d)).stamp ≡ (get_or entries k d).stamp)
            → (Between range.0 range.1 k × (now.stamp ≡ stamp)) ⊎ ((k < length entries) × (now.stamp ≡ (get_or entries k d).stamp))
        by_stamp (inl new) = inl (range_parts range k is, ap (λ (e : Entry). e.stamp) read ∙ new)
        by_stamp (inr old) = inr (in_entries, ap (λ (e : Entry). e.stamp) read ∙ old)

-- a deletion
pub same-deleted : (entries : List Entry) (start end : ℕ) → start ≤ end → end ≤ length entries
    → SameBut start (length (deleted entries start end)) entries (deleted entries start end)
same-deleted entries start end forward within k d inside (inl below) = (
  omega arith,
  get_or_append_left (take start entries) (drop end entries) d k (omega (arith, length-take-le start entries (omega arith)))
      ∙ get_or-take start entries k d below,
)
same-deleted entries start end forward within k d inside (inr behind) = absurd (omega arith)

-- an addition
pub same-added : (entries new : List Entry) (at : ℕ) → at ≤ length entries
    → SameBut at (length (added entries at new)) entries (added entries at new)
same-added entries new at within k d inside (inl below) = (
  omega arith,
  get_or_append_left (take at entries) (new ++ drop at entries) d k (omega (arith, length-take-le at entries within))
      ∙ get_or-take at entries k d below,
)
same-added entries new at within k d inside (inr behind) = absurd (omega arith)

-- two blocks that change places
pub long_exchanged : (entries : List Entry) (low middle high : ℕ) → low ≤ middle → middle ≤ high → high ≤ length entries
    → length (slice_range entries middle high ++ slice_range entries low middle) ≡ high - low
long_exchanged entries low middle high below above within =
    omega (
      arith,
      length-append (slice_range entries middle high) (slice_range entries low middle),
      length-between entries middle high within,
      length-between entries low middle (omega arith),
    )

pub same-exchanged : (entries : List Entry) (low middle high : ℕ) → low ≤ middle → middle ≤ high → high ≤ length entries
    → SameBut low high entries (exchanged entries low middle high)
same-exchanged entries low middle high below above within k d inside (inl in_front) = (
  omega arith,
  part_front entries (slice_range entries middle high ++ slice_range entries low middle) low high k d (omega arith) in_front,
)
same-exchanged entries low middle high below above within k d inside (inr behind) =
    let turned : List Entry = slice_range entries middle high ++ slice_range entries low middle in
    let long : length turned ≡ high - low = long_exchanged entries low middle high below above within in (
      omega (arith, long_part entries turned low high (omega arith) within long),
      part_back entries turned low high k d (omega arith) within long behind,
    )

pub length-exchanged : (entries : List Entry) (low middle high : ℕ) → low ≤ middle → middle ≤ high → high ≤ length entries
    → length (exchanged entries low middle high) ≡ length entries
length-exchanged entries low middle high below above within =
    long_part entries (slice_range entries middle high ++ slice_range entries low middle) low high (omega arith) within
    (long_exchanged entries low middle high below above within)

-- two entries that change places
pub follow-swapped : (stamp i j : ℕ) (entries : List Entry) → i < length entries → j < length entries
    → Follow (Either i j) stamp entries (stamped_where (λ at. at == i || at == j) stamp (swap entries i j))
follow-swapped stamp i j entries in_i in_j k d inside =
    by_cases (omega (arith, length-stamped_where (λ at. at == i || at == j) stamp (swap entries i j))) (cases_eq k i) (cases_eq k j)
  where
    moved : Swapped (λ m. get_or entries m d) (λ m. get_or (swap entries i j) m d) i j
    moved = swapped_from_swap entries (swap entries i j) i j d in_i in_j refl

    test : ℕ → Bool
    test at = at == i || at == j

    read : k < length (swap entries i j) → get_or (stamped_where test stamp (swap entries i j)) k d
        ≡ cond (test k) (with_stamp stamp (get_or (swap entries i j) k d)) (get_or (swap entries i j) k d)
    read in_swapped = get_or-stamped_where test stamp (swap entries i j) k d in_swapped

    or_true : (b : Bool) → (b || true) ≡ true
    or_true true = refl
    or_true false = refl

    by_cases : k < length (swap entries i j) → (k ≡ i) ⊎ (k ≢ i) → (k ≡ j) ⊎ (k ≢ j)
        → (Either i j k × ((get_or (stamped_where test stamp (swap entries i j)) k d).stamp ≡ stamp)) ⊎ ((k < length entries)
        × ((get_or (stamped_where test stamp (swap entries i j)) k d).stamp ≡ (get_or entries k d).stamp))
    by_cases in_swapped (inl at_i) either =
        let yes : test k ≡ true = ap (λ b. b || (k == j)) (eq-eqb k i at_i) in
        inl (inl at_i, ap (λ (e : Entry). e.stamp) (rw yes at (read in_swapped)))
    by_cases in_swapped (inr off_i) (inl at_j) =
        let yes : test k ≡ true = ap (λ b. (k == i) || b) (eq-eqb k j at_j) ∙ or_true (k == i) in
        inl (inr at_j, ap (λ (e : Entry). e.stamp) (rw yes at (read in_swapped)))
    by_cases in_swapped (inr off_i) (inr off_j) =
        let no : test k ≡ false = ap (λ b. b || (k == j)) (not_eq k i off_i) ∙ not_eq k j off_j in
        inr (omega (arith, length-swap entries i j), ap (λ (e : Entry). e.stamp) (rw no at (read in_swapped) ∙ moved.2 k off_i off_j))

-- a batch
pub follow-batch : (stamp first : ℕ) (entries : List Entry) (dropped changed : Uris) → first ≤ length entries
    → Follow (Between 0 (length (take first entries ++ kept (drop first entries) dropped))) stamp entries
    (marked changed stamp (take first (take first entries ++ kept (drop first entries) dropped))
    ++ map (with_stamp stamp) (drop first (take first entries ++ kept (drop first entries) dropped)))
follow-batch stamp first entries dropped changed within =
    rw (
      take_at (take first entries) (kept (drop first entries) dropped) first (length-take-le first entries within),
      drop_at (take first entries) (kept (drop first entries) dropped) first (length-take-le first entries within),
    ) (in_parts (take first entries) (kept (drop first entries) dropped) (length-take-le first entries within))
  where
    one : (e : Entry) (b : Bool) → ((cond b (with_stamp stamp e) e).stamp ≡ stamp) ⊎ ((cond b (with_stamp stamp e) e).stamp ≡ e.stamp)
    one e true = inl refl
    one e false = inr refl

    in_parts : (front left : List Entry) → length (take first entries) ≡ first
        → Follow (Between 0 (length (take first entries ++ left))) stamp entries
        (marked changed stamp (take first entries) ++ map (with_stamp stamp) left)
    in_parts front left long k d inside =
        let mark = λ (e : Entry). cond (is_among changed e.uri) (with_stamp stamp e) e in
        let long_marked : length (marked changed stamp (take first entries)) ≡ first = length-map (take first entries) mark ∙ long in
        let total : length (marked changed stamp (take first entries) ++ map (with_stamp stamp) left)
        ≡ first + length left = omega (
          arith,
          length-append (marked changed stamp (take first entries)) (map (with_stamp stamp) left),
          length-map left (with_stamp stamp),
        ) in
        let among : k < length (take first entries ++ left) = omega (arith, length-append (take first entries) left) in
        by_cases long_marked among (omega arith) (cases_lt k first)
      where
        by_cases : length (marked changed stamp (take first entries)) ≡ first → k < length (take first entries ++ left)
            → k < first + length left → (k < first) ⊎ (first ≤ k)
            → (Between 0 (length (take first entries ++ left)) k
            × ((get_or (marked changed stamp (take first entries) ++ map (with_stamp stamp) left) k d).stamp ≡ stamp))
            ⊎ ((k < length entries)
            × ((get_or (marked changed stamp (take first entries) ++ map (with_stamp stamp) left) k d).stamp
            ≡ (get_or entries k d).stamp))
        by_cases long_marked among below_end (inl below) =
            let mark = λ (e : Entry). cond (is_among changed e.uri) (with_stamp stamp e) e in
            let read : get_or (marked changed stamp (take first entries) ++ map (with_stamp stamp) left) k d
            ≡ mark (get_or entries k d) =
            get_or_append_left (marked changed stamp (take first entries)) (map (with_stamp stamp) left) d k (omega arith)
            ∙ get_or-map mark (take first entries) k d d (omega (arith, long)) ∙ ap mark (get_or-take first entries k d below) in
            of read (one (get_or entries k d) (is_among changed (get_or entries k d).uri))
          where
            of : get_or (marked changed stamp (take first entries) ++ map (with_stamp stamp) left) k d
                ≡ cond (is_among changed (get_or entries k d).uri) (with_stamp stamp (get_or entries k d)) (get_or entries k d)
                → ((cond (is_among changed (get_or entries k d).uri) (with_stamp stamp (get_or entries k d)) (get_or entries k d)).stamp
                ≡ stamp)
                ⊎ ((cond (is_among changed (get_or entries k d).uri) (with_stamp stamp (get_or entries k d)) (get_or entries k d)).stamp
                ≡ (get_or entries k d).stamp)
                → (Between 0 (length (take first entries ++ left)) k
                × ((get_or (marked changed stamp (take first entries) ++ map (with_stamp stamp) left) k d).stamp ≡ stamp))
                ⊎ ((k < length entries)
                × ((get_or (marked changed stamp (take first entries) ++ map (with_stamp stamp) left) k d).stamp
                ≡ (get_or entries k d).stamp))
            of read (inl new) = inl ((omega arith, among), ap (λ (e : Entry). e.stamp) read ∙ new)
            of read (inr old) = inr (omega arith, ap (λ (e : Entry). e.stamp) read ∙ old)
        by_cases long_marked among below_end (inr from) =
            inl (
              (omega arith, among),
              ap (λ (e : Entry). e.stamp)
                  (get_or-append_right (marked changed stamp (take first entries)) (map (with_stamp stamp) left) first k d long_marked from
                  ∙ get_or-map (with_stamp stamp) left (k - first) d d (omega arith)),
            )

-- a shuffle
stamped_moved_at : (stamp : ℕ) (befores afters : List Entry) → length befores ≡ length afters → SameById befores afters
    → (k : ℕ) (d : Entry) → k < length afters
    → ((get_or (stamped_moved (ids_of befores) stamp afters) k d).stamp ≡ stamp)
    ⊎ ((get_or (stamped_moved (ids_of befores) stamp afters) k d).stamp ≡ (get_or befores k d).stamp)
stamped_moved_at stamp [] [] long same k d within = absurd (omega arith)
stamped_moved_at stamp [] (after ∷ afters) long same k d within = absurd (omega arith)
stamped_moved_at stamp (before ∷ befores) [] long same k d within = absurd (omega arith)
stamped_moved_at stamp (before ∷ befores) (after ∷ afters) long same zero d within = of (after.id == before.id) refl
  where
    of : (b : Bool) → (after.id == before.id) ≡ b → ((cond b after (with_stamp stamp after)).stamp ≡ stamp)
        ⊎ ((cond b after (with_stamp stamp after)).stamp ≡ before.stamp)
    of true is = inr (ap (λ (e : Entry). e.stamp) (sym (same 0 d within (eqb-true after.id before.id is))))
    of false other = inl refl
stamped_moved_at stamp (before ∷ befores) (after ∷ afters) long same (suc k) d within =
    stamped_moved_at stamp befores afters (omega arith) (λ j e inside is. same (suc j) e (omega arith) is) k d (omega arith)

length-stamped_moved : (ids : List ℕ) (stamp : ℕ) (entries : List Entry) → length ids ≡ length entries
    → length (stamped_moved ids stamp entries) ≡ length entries
length-stamped_moved [] stamp entries long = refl
length-stamped_moved (id ∷ ids) stamp [] long = absurd (omega arith)
length-stamped_moved (id ∷ ids) stamp (entry ∷ entries) long = ap suc (length-stamped_moved ids stamp entries (omega arith))

pub follow-shuffled : (stamp start end : ℕ) (words : List ℕ) (entries : List Entry) → HaveOwnIds entries → start ≤ end
    → end ≤ length entries → length words ≡ end - start → Follow (Between start end) stamp entries
    (take start (shuffled entries start end words) ++ (stamped_moved (ids_of (slice_range entries start end)) stamp
    (slice_range (shuffled entries start end words) start end) ++ drop end (shuffled entries start end words)))
follow-shuffled stamp start end words entries own forward within drawn =
    rw (shuffled-block entries start end words forward within drawn) main
  where
    befores : List Entry
    befores = slice_range entries start end

    afters : List Entry
    afters = sorted_by_words words befores

    long_befores : length befores ≡ end - start
    long_befores = length-between entries start end within

    permutes : IsPermutation befores afters
    permutes = sorted-permutes words befores (omega (arith, long_befores, drawn))

    long_afters : length afters ≡ end - start
    long_afters = length_permutation befores afters permutes ∙ long_befores

    news : List Entry
    news = shuffled entries start end words

    long_news : length news ≡ length entries
    long_news = long_part entries afters start end forward within long_afters

    middle : List Entry
    middle = stamped_moved (ids_of befores) stamp afters

    long_middle : length middle ≡ end - start
    long_middle = length-stamped_moved (ids_of befores) stamp afters
        (length-map befores (λ entry. entry.id) ∙ long_befores ∙ sym long_afters) ∙ long_afters

    main : Follow (Between start end) stamp entries (take start news ++ (middle ++ drop end news))
    main k d inside =
        by_cases (omega (arith, long_part news middle start end forward (omega (arith, long_news)) long_middle, long_news))
        (cases_lt k start) (cases_lt k end)
      where
        in_news : end ≤ length news
        in_news = omega (arith, long_news)

        by_cases : k < length entries → (k < start) ⊎ (start ≤ k) → (k < end) ⊎ (end ≤ k)
            → (Between start end k × ((get_or (take start news ++ (middle ++ drop end news)) k d).stamp ≡ stamp)) ⊎ ((k < length entries)
            × ((get_or (take start news ++ (middle ++ drop end news)) k d).stamp ≡ (get_or entries k d).stamp))
        by_cases in_entries (inl below) either =
            inr (
              in_entries,
              ap (λ (e : Entry). e.stamp)
                  (part_front news middle start end k d (omega (arith, long_news)) below
                  ∙ part_front entries afters start end k d (omega arith) below),
            )
        by_cases in_entries (inr from) (inr behind) =
            inr (
              in_entries,
              ap (λ (e : Entry). e.stamp)
                  (part_back news middle start end k d forward in_news long_middle behind
                  ∙ part_back entries afters start end k d forward within long_afters behind),
            )
        by_cases in_entries (inr from) (inl below) =
            of (stamped_moved_at stamp befores afters (long_befores ∙ sym long_afters) (same_by_id befores afters own_part permutes) (k - start)
            d (omega (arith, long_afters)))
          where
            own_part : HaveOwnIds befores
            own_part = own_ids-block entries start end forward own

            read : get_or (take start news ++ (middle ++ drop end news)) k d ≡ get_or middle (k - start) d
            read = part_middle news middle start end k d forward in_news long_middle from below

            before : get_or befores (k - start) d ≡ get_or entries k d
            before = get_or-between entries start end (k - start) d (omega arith) ∙ ap (λ j. get_or entries j d) (omega arith)

            of : ((get_or middle (k - start) d).stamp ≡ stamp) ⊎ ((get_or middle (k - start) d).stamp
                ≡ (get_or befores (k - start) d).stamp)
                → (Between start end k × ((get_or (take start news ++ (middle ++ drop end news)) k d).stamp ≡ stamp))
                ⊎ ((k < length entries) × ((get_or (take start news ++ (middle ++ drop end news)) k d).stamp ≡ (get_or entries k d).stamp))
            of (inl new) = inl ((from, below), ap (λ (e : Entry). e.stamp) read ∙ new)
            of (inr old) = inr (in_entries, ap (λ (e : Entry). e.stamp) read ∙ old ∙ ap (λ (e : Entry). e.stamp) before)

-- what the list of a queue keeps, after each edit
pub list-restamped : (latest later : List ℕ) (version start end : ℕ) (befores entries : List Entry) → AreLatest latest befores
    → AreRestamped latest later (Between start end) version → start ≤ end → end ≤ length entries → length entries ≤ MAX_ENTRIES
    → SameBut start end befores entries
    → (length (restamped version start end entries) ≤ MAX_ENTRIES) × AreLatest later (restamped version start end entries)
list-restamped latest later version start end befores entries before stamps forward within few same = (
  long (version == MAX_VERSION),
  latest-restamped latest later (Between start end) version befores entries
      (take start entries ++ (map (with_stamp (version + 1)) (slice_range entries start end) ++ drop end entries)) before stamps few
      (follow-part (version + 1) start end befores entries forward within same),
)
  where
    long : (b : Bool) → length (cond b (map (with_stamp 1) entries)
        (take start entries ++ (map (with_stamp (version + 1)) (slice_range entries start end) ++ drop end entries))) ≤ MAX_ENTRIES
    long true = omega (arith, length-map entries (with_stamp 1))
    long false =
        omega (
          arith,
          long_part entries (map (with_stamp (version + 1)) (slice_range entries start end)) start end forward within
              (length-map (slice_range entries start end) (with_stamp (version + 1)) ∙ length-between entries start end within),
        )

pub list-deleted : (latest later : List ℕ) (version start end : ℕ) (entries : List Entry) → start ≤ end → end ≤ length entries
    → (length entries ≤ MAX_ENTRIES) × AreLatest latest entries
    → AreRestamped latest later (Between start (length (deleted entries start end))) version
    → (length (restamped version start (length (deleted entries start end)) (deleted entries start end)) ≤ MAX_ENTRIES)
    × AreLatest later (restamped version start (length (deleted entries start end)) (deleted entries start end))
list-deleted latest later version start end entries forward within before stamps =
    let long : length (deleted entries start end) ≡ start + (length entries - end) =
    omega (
      arith,
      length-append (take start entries) (drop end entries),
      length-take-le start entries (omega arith),
      length-drop end entries,
    ) in
    list-restamped latest later version start (length (deleted entries start end)) entries (deleted entries start end) before.1 stamps
    (omega arith) (omega arith) (omega (arith, before.0)) (same-deleted entries start end forward within)

pub list-exchanged : (latest later : List ℕ) (version low middle high : ℕ) (entries : List Entry) → low ≤ middle → middle ≤ high
    → high ≤ length entries → (length entries ≤ MAX_ENTRIES) × AreLatest latest entries
    → AreRestamped latest later (Between low high) version
    → (length (restamped version low high (exchanged entries low middle high)) ≤ MAX_ENTRIES)
    × AreLatest later (restamped version low high (exchanged entries low middle high))
list-exchanged latest later version low middle high entries below above within before stamps =
    let long : length (exchanged entries low middle high) ≡ length entries =
    length-exchanged entries low middle high below above within in
    list-restamped latest later version low high entries (exchanged entries low middle high) before.1 stamps (omega arith) (omega arith)
    (omega (arith, before.0)) (same-exchanged entries low middle high below above within)

pub length-added : (entries : List Entry) (at first : ℕ) (uris : Uris) → at ≤ length entries
    → length (added entries at (new_entries first uris)) ≡ length entries + length uris
length-added entries at first uris within =
    omega (
      arith,
      length-append (take at entries) (new_entries first uris ++ drop at entries),
      length-append (new_entries first uris) (drop at entries),
      length-new_entries first uris,
      length-take-le at entries within,
      length-drop at entries,
    )

pub list-added : (latest later : List ℕ) (version at first : ℕ) (uris : Uris) (entries : List Entry) → at ≤ length entries
    → length entries + length uris ≤ MAX_ENTRIES → AreLatest latest entries
    → AreRestamped latest later (Between at (length (added entries at (new_entries first uris)))) version
    → (length (restamped version at (length (added entries at (new_entries first uris))) (added entries at (new_entries first uris)))
    ≤ MAX_ENTRIES)
    × AreLatest later
    (restamped version at (length (added entries at (new_entries first uris))) (added entries at (new_entries first uris)))
list-added latest later version at first uris entries within few before stamps =
    let news : List Entry = added entries at (new_entries first uris) in
    let long : length news ≡ length entries + length uris = length-added entries at first uris within in
    list-restamped latest later version at (length news) entries news before stamps (omega arith) (omega arith) (omega arith)
    (same-added entries (new_entries first uris) at within)

pub list-swapped : (latest later : List ℕ) (version i j : ℕ) (entries : List Entry) → i < length entries → j < length entries
    → (length entries ≤ MAX_ENTRIES) × AreLatest latest entries → AreRestamped latest later (Either i j) version
    → (length (restamped_pair version i j (swap entries i j)) ≤ MAX_ENTRIES)
    × AreLatest later (restamped_pair version i j (swap entries i j))
list-swapped latest later version i j entries in_i in_j before stamps = (
  long (version == MAX_VERSION),
  latest-restamped latest later (Either i j) version entries (swap entries i j)
      (stamped_where (λ at. at == i || at == j) (version + 1) (swap entries i j)) before.1 stamps
      (omega (arith, before.0, length-swap entries i j)) (follow-swapped (version + 1) i j entries in_i in_j),
)
  where
    long : (b : Bool) → length (cond b (map (with_stamp 1) (swap entries i j))
        (stamped_where (λ at. at == i || at == j) (version + 1) (swap entries i j))) ≤ MAX_ENTRIES
    long true = omega (arith, before.0, length-swap entries i j, length-map (swap entries i j) (with_stamp 1))
    long false =
        omega (
          arith,
          before.0,
          length-swap entries i j,
          length-stamped_where (λ at. at == i || at == j) (version + 1) (swap entries i j),
        )

pub short-batch : (first : ℕ) (entries : List Entry) (dropped : Uris) → first ≤ length entries
    → length (take first entries ++ kept (drop first entries) dropped) ≤ length entries
short-batch first entries dropped within =
    let test = λ (entry : Entry). not (is_among dropped entry.uri) in
    omega (
      arith,
      length-append (take first entries) (kept (drop first entries) dropped),
      length-take-le first entries within,
      length-drop first entries,
      length-filter_both test (λ entry. not (test entry)) (λ entry. refl) (drop first entries),
    )

pub list-batch : (latest later : List ℕ) (version first : ℕ) (entries : List Entry) (dropped changed : Uris) → first ≤ length entries
    → (length entries ≤ MAX_ENTRIES) × AreLatest latest entries
    → AreRestamped latest later (Between 0 (length (take first entries ++ kept (drop first entries) dropped))) version
    → (length (restamped_batch version first changed (take first entries ++ kept (drop first entries) dropped)) ≤ MAX_ENTRIES)
    × AreLatest later (restamped_batch version first changed (take first entries ++ kept (drop first entries) dropped))
list-batch latest later version first entries dropped changed within before stamps = (
  long (version == MAX_VERSION),
  latest-restamped latest later (Between 0 (length left)) version entries left
      (marked changed (version + 1) (take first left) ++ map (with_stamp (version + 1)) (drop first left)) before.1 stamps few
      (follow-batch (version + 1) first entries dropped changed within),
)
  where
    left : List Entry
    left = take first entries ++ kept (drop first entries) dropped

    few : length left ≤ MAX_ENTRIES
    few = omega (arith, before.0, short-batch first entries dropped within)

    long : (b : Bool) → length (cond b (map (with_stamp 1) left)
        (marked changed (version + 1) (take first left) ++ map (with_stamp (version + 1)) (drop first left))) ≤ MAX_ENTRIES
    long true = omega (arith, few, length-map left (with_stamp 1))
    long false =
        let mark = λ (e : Entry). cond (is_among changed e.uri) (with_stamp (version + 1) e) e in
        omega (
          arith,
          few,
          length-append (marked changed (version + 1) (take first left)) (map (with_stamp (version + 1)) (drop first left)),
          length-map (take first left) mark,
          length-map (drop first left) (with_stamp (version + 1)),
          ap length (take-append-drop first left),
          length-append (take first left) (drop first left),
        )

pub list-prioritized : (later : List ℕ) (version priority : ℕ) (ranges : List (ℕ × ℕ)) (entries : List Entry)
    → length entries ≤ MAX_ENTRIES → (version ≡ MAX_VERSION → later ≡ replicate BLOCKS 1)
    → (version ≢ MAX_VERSION → AreLatest later (reprioritized version ranges priority entries))
    → (length (reprioritized version ranges priority entries) ≤ MAX_ENTRIES) × AreLatest later (reprioritized version ranges priority entries)
list-prioritized later version priority ranges entries few begun raises = of (version == MAX_VERSION) refl raises
  where
    of : (b : Bool) → (version == MAX_VERSION) ≡ b
        → (version ≢ MAX_VERSION → AreLatest later (cond b (map (with_stamp 1) (raised_in ranges priority 1 entries))
        (raised_in ranges priority (version + 1) entries)))
        → (length (cond b (map (with_stamp 1) (raised_in ranges priority 1 entries)) (raised_in ranges priority (version + 1) entries))
        ≤ MAX_ENTRIES)
        × AreLatest later
        (cond b (map (with_stamp 1) (raised_in ranges priority 1 entries)) (raised_in ranges priority (version + 1) entries))
    of true is raises =
        let long : length (raised_in ranges priority 1 entries) ≡ length entries =
        length-changed_in (is_in_some ranges) (raised priority 1) 0 entries in (
          omega (arith, length-map (raised_in ranges priority 1 entries) (with_stamp 1)),
          latest-begun later (raised_in ranges priority 1 entries) (begun (eqb-true version MAX_VERSION is)) (omega arith),
        )
    of false is raises =
        let long : length (raised_in ranges priority (version + 1) entries) ≡ length entries =
        length-changed_in (is_in_some ranges) (raised priority (version + 1)) 0 entries in
        (omega arith, raises (eqb-false version MAX_VERSION is))

pub list-shuffled : (latest later : List ℕ) (version start end : ℕ) (words : List ℕ) (entries : List Entry) → HaveOwnIds entries
    → start ≤ end → end ≤ length entries → length words ≡ end - start → (length entries ≤ MAX_ENTRIES) × AreLatest latest entries
    → AreRestamped latest later (Between start end) version
    → (length (restamped_moved version start end (ids_of (slice_range entries start end)) (shuffled entries start end words)) ≤ MAX_ENTRIES)
    × AreLatest later (restamped_moved version start end (ids_of (slice_range entries start end)) (shuffled entries start end words))
list-shuffled latest later version start end words entries own forward within drawn before stamps = (
  long (version == MAX_VERSION),
  latest-restamped latest later (Between start end) version entries news
      (take start news ++ (stamped_moved ids (version + 1) (slice_range news start end) ++ drop end news)) before.1 stamps
      (omega (arith, before.0, long_news)) (follow-shuffled (version + 1) start end words entries own forward within drawn),
)
  where
    news : List Entry
    news = shuffled entries start end words

    ids : List ℕ
    ids = ids_of (slice_range entries start end)

    long_news : length news ≡ length entries
    long_news = length_permutation entries news (shuffled-permutes entries start end words forward within drawn)

    long_part_of : length (slice_range news start end) ≡ end - start
    long_part_of = length-between news start end (omega (arith, long_news))

    long_ids : length ids ≡ length (slice_range news start end)
    long_ids = length-map (slice_range entries start end) (λ entry. entry.id) ∙ length-between entries start end within ∙ sym long_part_of

    long : (b : Bool) → length (cond b (map (with_stamp 1) news)
        (take start news ++ (stamped_moved ids (version + 1) (slice_range news start end) ++ drop end news))) ≤ MAX_ENTRIES
    long true = omega (arith, before.0, long_news, length-map news (with_stamp 1))
    long false =
        omega (
          arith,
          before.0,
          long_news,
          long_part news (stamped_moved ids (version + 1) (slice_range news start end)) start end forward (omega (arith, long_news))
              (length-stamped_moved ids (version + 1) (slice_range news start end) long_ids ∙ long_part_of),
        )
