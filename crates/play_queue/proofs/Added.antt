-- The stamp rule where entries are added.
use Rattle.std.proofs.Common.{◌≡◌, ◌≢◌, ℕ, zero, suc, ◌+◌, add-zero, ◌-◌, ◌<◌, ◌≤◌, ◌⊎◌, inl, inr, List, [], ◌∷◌, ◌++◌, length, get_or}
use Rattle.std.proofs.Common.{take, drop, refl, sym, ap, ◌∙◌, subst, arith}
use Rattle.std.specs.List.{All}
use Rattle.std.specs.List.Sorted.{IsPermutation}
use Rattle.std.proofs.lemmas.Bool.{cases_lt}
use Rattle.std.proofs.lemmas.List.{append_assoc, length-append, length-map, map-append, drop-map, length-take-le, length-drop}
use Rattle.std.proofs.lemmas.List.{take-append-drop, get_or_append_left, get_or-append_right, get_or-map, get_or-drop, get_or_default}
use Rattle.std.proofs.lemmas.List.Elements.{All-append, All-weaker}
use Rattle.std.proofs.lemmas.List.Sorted.{All-permutation, length_permutation, IsPermutation-append_comm, IsPermutation-append_right}
use Rattle.play_queue.specs.declared.entry.Entry.{Entry}
use Rattle.play_queue.specs.Limits.{MAX_ENTRIES, MAX_ID}
use Rattle.play_queue.specs.Entries.{Uris, new_entries, added}
use Rattle.play_queue.specs.Queue.{QueueState, HaveOwnIds, IsQueue, IsEntry, ids_of, ruled}
use Rattle.play_queue.specs.Restamp.{restamped, next_version}
use Rattle.play_queue.proofs.OwnIds.{differ_at, own_ids-permutation}
use Rattle.play_queue.proofs.Ruling.{Differ, ruled-tail}
use Rattle.play_queue.proofs.Sound.{AreFit, sound-tail}

-- one more entry at the end
pub new_entries-push : (first : ℕ) (uris : Uris) (uri : List ℕ)
    → new_entries first (uris ++ uri ∷ []) ≡ new_entries first uris ++ record {
      id = first + length uris;
      uri = uri;
      priority = 0;
      stamp =
          1;
    } ∷ []
new_entries-push first [] uri = rw add-zero refl
new_entries-push first (other ∷ uris) uri =
    let shift : (first + 1) + length uris ≡ first + suc (length uris) = omega arith in
    ap (λ rest. record { id = first; uri = other; priority = 0; stamp = 1 } ∷ rest) (rw shift at (new_entries-push (first + 1) uris uri))

pub length-new_entries : (first : ℕ) (uris : Uris) → length (new_entries first uris) ≡ length uris
length-new_entries first [] = refl
length-new_entries first (uri ∷ uris) = ap suc (length-new_entries (first + 1) uris)

id-new_entries : (first : ℕ) (uris : Uris) (k : ℕ) → k < length uris → get_or (ids_of (new_entries first uris)) k 0 ≡ first + k
id-new_entries first [] k within = absurd (omega arith)
id-new_entries first (uri ∷ uris) zero within = omega arith
id-new_entries first (uri ∷ uris) (suc k) within = id-new_entries (first + 1) uris k (omega arith) ∙ omega arith

ids-append : (front back : List Entry) → ids_of (front ++ back) ≡ ids_of front ++ ids_of back
ids-append front back = map-append (λ entry. entry.id) front back

-- an id of the queue is below the next one
id_used : (q : QueueState) → All (IsEntry q.next_id q.version) q.entries → (k : ℕ) → k < length q.entries
    → get_or (ids_of q.entries) k 0 < q.next_id
id_used q all k within = at q.entries all k within
  where
    at : (entries : List Entry) → All (IsEntry q.next_id q.version) entries → (k : ℕ) → k < length entries
        → get_or (ids_of entries) k 0 < q.next_id
    at [] all k within = absurd (omega arith)
    at (entry ∷ entries) all k within = rw (get_or-map (λ e. e.id) (entry ∷ entries) k entry 0 within) (all k entry within).id_used

-- what is added differs from what stood there
differ_added : (q : QueueState) (at : ℕ) (uris : Uris) → IsQueue q → at ≤ length q.entries → 0 < length uris
    → Differ (drop at q.entries) (new_entries q.next_id uris ++ drop at q.entries)
differ_added q at uris sound within some k in_befores in_afters = by_cases (cases_lt k (length uris))
  where
    by_cases : (k < length uris) ⊎ (length uris ≤ k)
        → get_or (ids_of (drop at q.entries)) k 0 ≢ get_or (ids_of (new_entries q.next_id uris ++ drop at q.entries)) k 0
    by_cases (inl new) =
        let long : length (ids_of (new_entries q.next_id uris)) ≡ length uris =
        length-map (new_entries q.next_id uris) (λ entry. entry.id) ∙ length-new_entries q.next_id uris in
        let read : get_or (ids_of (new_entries q.next_id uris ++ drop at q.entries)) k 0 ≡ q.next_id + k =
        rw (
          ids-append (new_entries q.next_id uris) (drop at q.entries),
          get_or_append_left (ids_of (new_entries q.next_id uris)) (ids_of (drop at q.entries)) 0 k (omega arith),
        )
        (id-new_entries q.next_id uris k new) in
        let old : get_or (ids_of (drop at q.entries)) k 0 ≡ get_or (ids_of q.entries) (at + k) 0 =
        rw (← drop-map (λ entry. entry.id) at q.entries) (get_or-drop at (ids_of q.entries) k 0) in
        let used : get_or (ids_of q.entries) (at + k) 0 < q.next_id =
        id_used q sound.entry (at + k) (omega (arith, length-drop at q.entries)) in
        λ same. absurd (omega arith)
    by_cases (inr slid) =
        let long : length (ids_of (new_entries q.next_id uris)) ≡ length uris =
        length-map (new_entries q.next_id uris) (λ entry. entry.id) ∙ length-new_entries q.next_id uris in
        let sum : length (new_entries q.next_id uris ++ drop at q.entries) ≡ length uris + length (drop at q.entries) =
        length-append (new_entries q.next_id uris) (drop at q.entries)
        ∙ ap (λ n. n + length (drop at q.entries)) (length-new_entries q.next_id uris) in
        let read : get_or (ids_of (new_entries q.next_id uris ++ drop at q.entries)) k 0
        ≡ get_or (ids_of q.entries) (at + (k - length uris)) 0 =
        rw (
          ids-append (new_entries q.next_id uris) (drop at q.entries),
          get_or-append_right (ids_of (new_entries q.next_id uris)) (ids_of (drop at q.entries)) (length uris) k 0 long slid,
          ← drop-map (λ entry. entry.id) at q.entries,
        ) (get_or-drop at (ids_of q.entries) (k - length uris) 0) in
        let old : get_or (ids_of (drop at q.entries)) k 0 ≡ get_or (ids_of q.entries) (at + k) 0 =
        rw (← drop-map (λ entry. entry.id) at q.entries) (get_or-drop at (ids_of q.entries) k 0) in
        let all_long : length (ids_of q.entries) ≡ length q.entries = length-map q.entries (λ entry. entry.id) in
        let rest : length (drop at q.entries) ≡ length q.entries - at = length-drop at q.entries in
        rw (read, old) (differ_at (ids_of q.entries) (at + k) (at + (k - length uris)) sound.own_ids (omega arith) (omega arith)
        (omega arith))

pub ruled-added : (q : QueueState) (at : ℕ) (uris : Uris) → IsQueue q → at ≤ length q.entries → 0 < length uris
    → record q {
      entries = restamped q.version at (length (added q.entries at (new_entries q.next_id uris)))
          (added q.entries at (new_entries q.next_id uris));
      version = next_version q.version;
    }
    ≡ ruled q (added q.entries at (new_entries q.next_id uris)) []
ruled-added q at uris sound within some =
    let long : length (take at q.entries) ≡ at = length-take-le at q.entries within in
    let more : length (new_entries q.next_id uris ++ drop at q.entries) ≡ length uris + length (drop at q.entries) =
    length-append (new_entries q.next_id uris) (drop at q.entries)
    ∙ ap (λ n. n + length (drop at q.entries)) (length-new_entries q.next_id uris) in
    let made = ruled-tail q (take at q.entries) (drop at q.entries) (new_entries q.next_id uris ++ drop at q.entries)
    (sym (take-append-drop at q.entries)) (differ_added q at uris sound within some) (omega arith) in
    rw long at made

-- the added entries are fit
new_fit : (next version : ℕ) (first : ℕ) (uris : Uris) → 1 ≤ version → 1 ≤ first → first + length uris ≤ next → (k : ℕ) (d : Entry)
    → k < length (new_entries first uris) → IsEntry next version (get_or (new_entries first uris) k d)
new_fit next version first [] low one le k d within = absurd (omega arith)
new_fit next version first (uri ∷ uris) low one le zero d within =
    record { id_low = one; id_used = omega arith; stamp_low = omega arith; stamp_high = low }
new_fit next version first (uri ∷ uris) low one le (suc k) d within =
    new_fit next version (first + 1) uris low (omega arith) (omega arith) k d (omega arith)

id-old_or_new : (q : QueueState) (uris : Uris) → IsQueue q → (k : ℕ) → k < length q.entries + length uris
    → ((k < length q.entries) × (get_or (ids_of (q.entries ++ new_entries q.next_id uris)) k 0 ≡ get_or (ids_of q.entries) k 0))
    ⊎ ((length q.entries ≤ k) × (get_or (ids_of (q.entries ++ new_entries q.next_id uris)) k 0 ≡ q.next_id + (k - length q.entries)))
id-old_or_new q uris sound k within = by_cases (cases_lt k (length q.entries))
  where
    by_cases : (k < length q.entries) ⊎ (length q.entries ≤ k)
        → ((k < length q.entries) × (get_or (ids_of (q.entries ++ new_entries q.next_id uris)) k 0 ≡ get_or (ids_of q.entries) k 0))
        ⊎ ((length q.entries ≤ k) × (get_or (ids_of (q.entries ++ new_entries q.next_id uris)) k 0 ≡ q.next_id + (k - length q.entries)))
    by_cases (inl old) =
        let long : length (ids_of q.entries) ≡ length q.entries = length-map q.entries (λ entry. entry.id) in
        inl (
          old,
          rw (
            ids-append q.entries (new_entries q.next_id uris),
            get_or_append_left (ids_of q.entries) (ids_of (new_entries q.next_id uris)) 0 k (omega arith),
          ) refl,
        )
    by_cases (inr new) =
        let long : length (ids_of q.entries) ≡ length q.entries = length-map q.entries (λ entry. entry.id) in
        inr (
          new,
          rw (
            ids-append q.entries (new_entries q.next_id uris),
            get_or-append_right (ids_of q.entries) (ids_of (new_entries q.next_id uris)) (length q.entries) k 0 long new,
          )
              (id-new_entries q.next_id uris (k - length q.entries) (omega arith)),
        )

own_ids-with_new : (q : QueueState) (uris : Uris) → IsQueue q → HaveOwnIds (q.entries ++ new_entries q.next_id uris)
own_ids-with_new q uris sound i j d below within =
    let whole : length (ids_of (q.entries ++ new_entries q.next_id uris)) ≡ length q.entries + length uris =
    length-map (q.entries ++ new_entries q.next_id uris) (λ entry. entry.id) ∙ length-append q.entries (new_entries q.next_id uris)
    ∙ ap (λ n. length q.entries + n) (length-new_entries q.next_id uris) in
    let in_i : i < length q.entries + length uris = omega arith in
    let in_j : j < length q.entries + length uris = omega arith in
    rw (
      get_or_default (ids_of (q.entries ++ new_entries q.next_id uris)) i d 0 (omega arith),
      get_or_default (ids_of (q.entries ++ new_entries q.next_id uris)) j d 0 within,
    )
    (by_cases (id-old_or_new q uris sound i in_i) (id-old_or_new q uris sound j in_j))
  where
    by_cases : ((i < length q.entries) × (get_or (ids_of (q.entries ++ new_entries q.next_id uris)) i 0 ≡ get_or (ids_of q.entries) i 0))
        ⊎ ((length q.entries ≤ i) × (get_or (ids_of (q.entries ++ new_entries q.next_id uris)) i 0 ≡ q.next_id + (i - length q.entries)))
        → ((j < length q.entries) × (get_or (ids_of (q.entries ++ new_entries q.next_id uris)) j 0 ≡ get_or (ids_of q.entries) j 0))
        ⊎ ((length q.entries ≤ j) × (get_or (ids_of (q.entries ++ new_entries q.next_id uris)) j 0 ≡ q.next_id + (j - length q.entries)))
        → get_or (ids_of (q.entries ++ new_entries q.next_id uris)) i 0 ≢ get_or (ids_of (q.entries ++ new_entries q.next_id uris)) j 0
    by_cases (inl one) (inl other) =
        rw (one.1, other.1) (sound.own_ids i j 0 below (omega (arith, one.0, other.0, length-map q.entries (λ entry. entry.id))))
    by_cases (inl one) (inr other) =
        let used : get_or (ids_of q.entries) i 0 < q.next_id = id_used q sound.entry i one.0 in
        λ same. absurd (omega (arith, one.1, other.1))
    by_cases (inr one) (inl other) = absurd (omega (arith, one.0, other.0))
    by_cases (inr one) (inr other) = λ same. absurd (omega (arith, one.0, one.1, other.0, other.1))

pub fit-added : (q : QueueState) (at : ℕ) (uris : Uris) → IsQueue q → length q.entries + length uris ≤ MAX_ENTRIES
    → AreFit (q.next_id + length uris) q.version (added q.entries at (new_entries q.next_id uris))
fit-added q at uris sound few =
    let next : ℕ = q.next_id + length uris in
    let new : List Entry = new_entries q.next_id uris in
    let front : List Entry = take at q.entries in
    let back : List Entry = drop at q.entries in
    let whole : q.entries ≡ front ++ back = sym (take-append-drop at q.entries) in
    let turned : IsPermutation (front ++ (back ++ new)) (front ++ (new ++ back)) =
    IsPermutation-append_right front _ _ (IsPermutation-append_comm back new) in
    let same : q.entries ++ new ≡ front ++ (back ++ new) = ap (λ l. l ++ new) whole ∙ append_assoc front back new in
    let moved : IsPermutation (q.entries ++ new) (added q.entries at new) =
    subst (λ l. IsPermutation l (added q.entries at new)) (sym same) turned in
    let old : All (IsEntry next q.version) q.entries =
    All-weaker (IsEntry q.next_id q.version) (IsEntry next q.version)
    (λ entry fit. record {
      id_low = fit.id_low;
      id_used = omega (arith, fit.id_used);
      stamp_low = fit.stamp_low;
      stamp_high =
          fit.stamp_high;
    }) q.entries sound.entry in
    let all : All (IsEntry next q.version) (q.entries ++ new) =
    All-append (IsEntry next q.version) q.entries new old
    (new_fit next q.version q.next_id uris sound.version_low sound.next_low (omega arith)) in
    record {
      few = omega (arith, few, length_permutation _ _ moved, length-append q.entries new, length-new_entries q.next_id uris);
      entry = All-permutation (IsEntry next q.version) _ _ moved all;
      own_ids = own_ids-permutation _ _ moved (own_ids-with_new q uris sound);
    }

pub sound-added : (q : QueueState) (at : ℕ) (uris : Uris) → IsQueue q → at ≤ length q.entries → length q.entries + length uris ≤ MAX_ENTRIES
    → q.next_id + length uris ≤ MAX_ID + 1
    → IsQueue (record {
      entries = restamped q.version at (length (added q.entries at (new_entries q.next_id uris)))
          (added q.entries at (new_entries q.next_id uris));
      version = next_version q.version;
      next_id = q.next_id + length uris;
    })
sound-added q at uris sound within few ids =
    sound-tail q (q.next_id + length uris) at (added q.entries at (new_entries q.next_id uris)) sound (fit-added q at uris sound few)
    (omega (arith, sound.next_low)) ids
    (omega (
      arith,
      length-append (take at q.entries) (new_entries q.next_id uris ++ drop at q.entries),
      length-take-le at q.entries within,
    ))

-- nothing is added
pub added-none : (entries : List Entry) (at first : ℕ) (uris : Uris) → length uris ≡ 0 → added entries at (new_entries first uris) ≡ entries
added-none entries at first [] none = take-append-drop at entries
added-none entries at first (uri ∷ uris) none = absurd (omega arith)

pub ruled-added_next : (q : QueueState) (at : ℕ) (uris : Uris) (next : ℕ) → IsQueue q → at ≤ length q.entries → 0 < length uris
    → next ≡ q.next_id + length uris
    → record {
      entries = restamped q.version at (length (added q.entries at (new_entries q.next_id uris)))
          (added q.entries at (new_entries q.next_id uris));
      version = next_version q.version;
      next_id = next;
    }
    ≡ record (ruled q (added q.entries at (new_entries q.next_id uris)) []) { next_id = q.next_id + length uris }
ruled-added_next q at uris next sound within some is =
    rw is (ap (λ (s : QueueState). record s { next_id = q.next_id + length uris }) (ruled-added q at uris sound within some))
