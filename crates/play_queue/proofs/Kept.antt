-- A queue keeps what every queue keeps, whatever the stamp rule changes; and the rule where a batch has dropped and changed rows.
use Rattle.std.proofs.Common.{◌≡◌, ℕ, zero, suc, ◌+◌, ◌-◌, ◌<◌, ◌≤◌, Bool, true, false, cond, not, eqb, ◌==◌, ◌||◌, ◌&&◌, ◌⊎◌, inl, inr}
use Rattle.std.proofs.Common.{List, [], ◌∷◌, ◌++◌, length, get_or, map, take, drop, filter, refl, sym, ap, ◌∙◌, arith}
use Rattle.std.specs.List.{All, list_any, prefix_len}
use Rattle.std.proofs.lemmas.Bool.{eqb-true, eqb-false, eq-eqb}
use Rattle.std.proofs.lemmas.List.{length-map, length-take-le, take-append-drop, take_at, drop_at, take_all, drop_all}
use Rattle.std.proofs.lemmas.List.{append-nil, length-drop}
use Rattle.std.proofs.lemmas.List.Elements.{All-cons, All-head, All-tail}
use Rattle.std.proofs.lemmas.List.Sorted.{IsPermutation-filter_both}
use Rattle.play_queue.specs.declared.entry.Entry.{Entry}
use Rattle.play_queue.specs.Limits.{MAX_VERSION}
use Rattle.play_queue.specs.Entries.{Uris, is_among, kept}
use Rattle.play_queue.specs.Queue.{QueueState, HaveOwnIds, IsQueue, IsEntry, ids_of, is_same, is_unchanged, with_stamp, stamped, ruled}
use Rattle.play_queue.specs.Restamp.{marked, next_version}
use Rattle.play_queue.proofs.OwnIds.{differ_at, own_ids-back}
use Rattle.play_queue.proofs.Ruling.{Differ, chosen, bytes_eq-same, stamped-changed, is_unchanged-changed}
use Rattle.play_queue.proofs.Sound.{AreFit, fit-reordered, fit-queue, with_new_stamp, grown, own_ids-same, ids-with_stamp}

-- a position that is the same has the same id
same_id : (changed : Uris) (before after : Entry) → is_same changed before after ≡ true → before.id ≡ after.id
same_id changed before after same = eqb-true before.id after.id (and_left (eqb before.id after.id) _ same)
  where
    and_left : (a b : Bool) → (a && b) ≡ true → a ≡ true
    and_left true b both = refl
    and_left false b both = both

id-chosen : (changed : Uris) (stamp : ℕ) (before after : Entry)
    → (cond (is_same changed before after) before (with_stamp stamp after)).id ≡ after.id
id-chosen changed stamp before after = of (is_same changed before after) refl
  where
    of : (b : Bool) → is_same changed before after ≡ b → (cond b before (with_stamp stamp after)).id ≡ after.id
    of true same = same_id changed before after same
    of false other = refl

pub ids-stamped : (changed : Uris) (stamp : ℕ) (befores afters : List Entry) → ids_of (stamped changed stamp befores afters) ≡ ids_of afters
ids-stamped changed stamp befores [] = refl
ids-stamped changed stamp [] (after ∷ afters) = ap (λ ids. after.id ∷ ids) (ids-stamped changed stamp [] afters)
ids-stamped changed stamp (before ∷ befores) (after ∷ afters) =
    rw (id-chosen changed stamp before after, ids-stamped changed stamp befores afters) refl

entry-chosen : (next stamp : ℕ) (b : Bool) (before after : Entry) → 1 ≤ stamp → IsEntry next stamp before → IsEntry next stamp after
    → IsEntry next stamp (cond b before (with_stamp stamp after))
entry-chosen next stamp true before after low fit new = fit
entry-chosen next stamp false before after low fit new =
    record { id_low = new.id_low; id_used = new.id_used; stamp_low = low; stamp_high = omega arith }

all-stamped : (changed : Uris) (next stamp : ℕ) (befores afters : List Entry) → 1 ≤ stamp → All (IsEntry next stamp) befores
    → All (IsEntry next stamp) afters → All (IsEntry next stamp) (stamped changed stamp befores afters)
all-stamped changed next stamp befores [] low old new = λ k d within. absurd (omega arith)
all-stamped changed next stamp [] (after ∷ afters) low old new =
    All-cons (IsEntry next stamp) _ _ (entry-chosen next stamp false after after low (All-head (IsEntry next stamp) after afters new)
    (All-head (IsEntry next stamp) after afters new))
    (all-stamped changed next stamp [] afters low old (All-tail (IsEntry next stamp) after afters new))
all-stamped changed next stamp (before ∷ befores) (after ∷ afters) low old new =
    All-cons (IsEntry next stamp) _ _ (entry-chosen next stamp (is_same changed before after) before after low
    (All-head (IsEntry next stamp) before befores old) (All-head (IsEntry next stamp) after afters new))
    (all-stamped changed next stamp befores afters low (All-tail (IsEntry next stamp) before befores old)
    (All-tail (IsEntry next stamp) after afters new))

-- whatever changes by the rule
pub sound-ruled : (q : QueueState) (afters : List Entry) (changed : Uris) → IsQueue q → AreFit q.next_id q.version afters
    → IsQueue (ruled q afters changed)
sound-ruled q afters changed sound fit = of (is_unchanged changed q.entries afters)
  where
    new : (b : Bool) → (q.version == MAX_VERSION) ≡ b
        → IsQueue (cond b (record q { entries = map (with_stamp 1) afters; version = 1 })
        (record q { entries = stamped changed (q.version + 1) q.entries afters; version = q.version + 1 }))
    new true is = record {
      few = omega (arith, fit.few, length-map afters (with_stamp 1));
      version_low = omega arith;
      version_high = omega arith;
      next_low = sound.next_low;
      next_high = sound.next_high;
      entry = with_new_stamp q.next_id q.version 1 (omega arith) afters fit.entry;
      own_ids = own_ids-same (map (with_stamp 1) afters) afters (ids-with_stamp 1 afters) fit.own_ids;
    }
    new false is =
        let apart = eqb-false q.version MAX_VERSION is in
        let ids = ids-stamped changed (q.version + 1) q.entries afters in
        record {
          few = omega (
            arith,
            fit.few,
            length-map (stamped changed (q.version + 1) q.entries afters) (λ entry. entry.id),
            length-map afters (λ entry. entry.id),
            ap length ids,
          );
          version_low = omega arith;
          version_high = omega (arith, sound.version_high);
          next_low = sound.next_low;
          next_high = sound.next_high;
          entry = all-stamped changed q.next_id (q.version + 1) q.entries afters (omega arith)
              (grown q.next_id q.version (q.version + 1) (omega arith) q.entries sound.entry)
              (grown q.next_id q.version (q.version + 1) (omega arith) afters fit.entry);
          own_ids = own_ids-same (stamped changed (q.version + 1) q.entries afters) afters ids fit.own_ids;
        }

    of : (b : Bool) → IsQueue
        (cond b q (cond (q.version == MAX_VERSION) (record q { entries = map (with_stamp 1) afters; version = 1 })
        (record q { entries = stamped changed (q.version + 1) q.entries afters; version = q.version + 1 })))
    of true = sound
    of false = new (q.version == MAX_VERSION) refl

-- an entry that stays where it is differs where its row has changed
is_same-row : (changed : Uris) (entry : Entry) → is_same changed entry entry ≡ not (is_among changed entry.uri)
is_same-row changed entry = rw (eq-eqb entry.id entry.id refl, eq-eqb entry.priority entry.priority refl, bytes_eq-same entry.uri) refl

cond_not : (b : Bool) (one other : Entry) → cond (not b) one other ≡ cond b other one
cond_not true one other = refl
cond_not false one other = refl

pub stamped-rows : (changed : Uris) (stamp : ℕ) (front befores afters : List Entry)
    → stamped changed stamp (front ++ befores) (front ++ afters) ≡ marked changed stamp front ++ stamped changed stamp befores afters
stamped-rows changed stamp [] befores afters = refl
stamped-rows changed stamp (entry ∷ front) befores afters =
    rw (
      is_same-row changed entry,
      cond_not (is_among changed entry.uri) entry (with_stamp stamp entry),
      stamped-rows changed stamp front befores afters,
    ) refl

and_not : (a b c : Bool) → (not a && (not b && c)) ≡ (not (a || b) && c)
and_not true b c = refl
and_not false b c = refl

pub is_unchanged-rows : (changed : Uris) (front befores afters : List Entry)
    → is_unchanged changed (front ++ befores) (front ++ afters)
    ≡ (not (list_any (λ entry. is_among changed entry.uri) front) && is_unchanged changed befores afters)
is_unchanged-rows changed [] befores afters = refl
is_unchanged-rows changed (entry ∷ front) befores afters =
    rw (is_same-row changed entry, is_unchanged-rows changed front befores afters)
    (and_not (is_among changed entry.uri) (list_any (λ e. is_among changed e.uri) front) (is_unchanged changed befores afters))

-- how many entries stand in front of the first that is dropped
abbrev pub kept_front : (Entry → Bool) → List Entry → ℕ
kept_front keep [] = 0
kept_front keep (entry ∷ entries) = cond (keep entry) (suc (kept_front keep entries)) 0

pub prefix_len-is : (keep : Entry → Bool) (entries : List Entry) → prefix_len keep entries ≡ kept_front keep entries
prefix_len-is keep [] = refl
prefix_len-is keep (entry ∷ entries) =
    ap (λ n. cond (keep entry) n 0) (one_more (prefix_len keep entries) ∙ ap suc (prefix_len-is keep entries))
  where
    one_more : (n : ℕ) → 1 + n ≡ suc n
    one_more n = omega arith

-- what stands behind the first entry that is dropped
pub before_dropped : (keep : Entry → Bool) (entries : List Entry)
    → filter keep entries ≡ take (kept_front keep entries) entries ++ filter keep (drop (kept_front keep entries) entries)
before_dropped keep [] = refl
before_dropped keep (entry ∷ entries) = of (before_dropped keep entries) (keep entry) refl
  where
    of : filter keep entries ≡ take (kept_front keep entries) entries ++ filter keep (drop (kept_front keep entries) entries) → (b : Bool)
        → keep entry ≡ b → cond b (entry ∷ filter keep entries) (filter keep entries)
        ≡ take (cond b (suc (kept_front keep entries)) 0) (entry ∷ entries)
        ++ filter keep (drop (cond b (suc (kept_front keep entries)) 0) (entry ∷ entries))
    of rest true is = ap (λ l. entry ∷ l) rest
    of rest false is = rw is refl

-- an entry that is kept stood no further in front
found_behind : (keep : Entry → Bool) (entries : List Entry) (k : ℕ) → k < length (filter keep entries)
    → (j : ℕ) × (k ≤ j) × (j < length entries) × (get_or (ids_of (filter keep entries)) k 0 ≡ get_or (ids_of entries) j 0)
found_behind keep [] k within = absurd (omega arith)
found_behind keep (entry ∷ entries) k within = of (λ m. found_behind keep entries m) (keep entry) k within
  where
    of : ((m : ℕ) → m < length (filter keep entries) → (j : ℕ) × (m ≤ j) × (j < length entries)
        × (get_or (ids_of (filter keep entries)) m 0 ≡ get_or (ids_of entries) j 0)) → (b : Bool) (k : ℕ)
        → k < length (cond b (entry ∷ filter keep entries) (filter keep entries))
        → (j : ℕ) × (k ≤ j) × (j < length (entry ∷ entries))
        × (get_or (ids_of (cond b (entry ∷ filter keep entries) (filter keep entries))) k 0 ≡ get_or (ids_of (entry ∷ entries)) j 0)
    of found true zero within = (0, omega arith, omega arith, refl)
    of found true (suc k) within = let rest = found k (omega arith) in (suc rest.0, omega (arith, rest.1), omega (arith, rest.2), rest.3)
    of found false k within = let rest = found k within in (suc rest.0, omega (arith, rest.1), omega (arith, rest.2), rest.3)

differ_filtered : (keep : Entry → Bool) (entry : Entry) (entries : List Entry) → HaveOwnIds (entry ∷ entries) → keep entry ≡ false
    → Differ (entry ∷ entries) (filter keep (entry ∷ entries))
differ_filtered keep entry entries own gone k in_befores in_afters =
    let in_rest : k < length (filter keep entries) = rw gone at in_afters in
    let found = found_behind keep entries k in_rest in
    let long : length (ids_of (entry ∷ entries)) ≡ length (entry ∷ entries) = length-map (entry ∷ entries) (λ e. e.id) in
    rw (gone, found.3) (differ_at (ids_of (entry ∷ entries)) k (suc found.0) own (omega arith) (omega (arith, found.2))
    (omega (arith, found.1)))

-- from the first entry that is dropped on, each position has changed
pub differ_dropped : (keep : Entry → Bool) (entries : List Entry) → HaveOwnIds entries
    → Differ (drop (kept_front keep entries) entries) (filter keep (drop (kept_front keep entries) entries))
differ_dropped keep [] own = λ k in_befores in_afters. absurd (omega arith)
differ_dropped keep (entry ∷ entries) own = of (differ_dropped keep entries (own_ids-back (entry ∷ []) entries own)) (keep entry) refl
  where
    of : Differ (drop (kept_front keep entries) entries) (filter keep (drop (kept_front keep entries) entries)) → (b : Bool)
        → keep entry ≡ b → Differ (drop (cond b (suc (kept_front keep entries)) 0) (entry ∷ entries))
        (filter keep (drop (cond b (suc (kept_front keep entries)) 0) (entry ∷ entries)))
    of rest true is = rest
    of rest false is = differ_filtered keep entry entries own is

pub front_fits : (keep : Entry → Bool) (entries : List Entry) → kept_front keep entries ≤ length entries
front_fits keep [] = omega arith
front_fits keep (entry ∷ entries) = of (front_fits keep entries) (keep entry)
  where
    of : kept_front keep entries ≤ length entries → (b : Bool) → cond b (suc (kept_front keep entries)) 0 ≤ length (entry ∷ entries)
    of rest true = omega arith
    of rest false = omega arith

-- the batch: where nothing is dropped and no row has changed
pub ruled-batch_same : (q : QueueState) (dropped changed : Uris)
    → kept_front (λ entry. not (is_among dropped entry.uri)) q.entries ≡ length q.entries
    → list_any (λ entry. is_among changed entry.uri) q.entries ≡ false → ruled q (kept q.entries dropped) changed ≡ q
ruled-batch_same q dropped changed all none =
    let keep : Entry → Bool = λ entry. not (is_among dropped entry.uri) in
    let parts : kept q.entries dropped ≡ take (length q.entries) q.entries ++ filter keep (drop (length q.entries) q.entries) =
    rw all at (before_dropped keep q.entries) in
    let whole : kept q.entries dropped ≡ q.entries =
    rw (
      take_all (length q.entries) q.entries (omega arith),
      drop_all (length q.entries) q.entries (omega arith),
      append-nil q.entries,
    ) at parts in
    let row : is_unchanged changed (q.entries ++ []) (q.entries ++ [])
    ≡ (not (list_any (λ entry. is_among changed entry.uri) q.entries) && true) = is_unchanged-rows changed q.entries [] [] in
    let same : is_unchanged changed q.entries q.entries ≡ true = rw (append-nil q.entries, none) at row in
    rw (whole, same) refl

-- where something has changed
some_changed : (changed : Uris) (front befores afters : List Entry) → Differ befores afters
    → (0 < length befores) ⊎ (list_any (λ entry. is_among changed entry.uri) front ≡ true)
    → is_unchanged changed (front ++ befores) (front ++ afters) ≡ false
some_changed changed front befores afters differ (inl some) = is_unchanged-rows changed front befores afters
    ∙ rw (is_unchanged-changed changed befores afters differ (omega arith))
    (and_false (not (list_any (λ entry. is_among changed entry.uri) front)))
  where
    and_false : (b : Bool) → (b && false) ≡ false
    and_false true = refl
    and_false false = refl
some_changed changed front befores afters differ (inr row) = is_unchanged-rows changed front befores afters ∙ rw row refl

pub ruled-parts : (q : QueueState) (front befores afters : List Entry) (changed : Uris) → q.entries ≡ front ++ befores
    → Differ befores afters → (0 < length befores) ⊎ (list_any (λ entry. is_among changed entry.uri) front ≡ true)
    → record q {
      entries = cond (q.version == MAX_VERSION) (map (with_stamp 1) (front ++ afters))
          (marked changed (q.version + 1) front ++ map (with_stamp (q.version + 1)) afters);
      version = next_version q.version;
    }
    ≡ ruled q (front ++ afters) changed
ruled-parts q front befores afters changed split differ some =
    let other : is_unchanged changed q.entries (front ++ afters) ≡ false =
    rw split (some_changed changed front befores afters differ some) in
    let cut : marked changed (q.version + 1) front ++ map (with_stamp (q.version + 1)) afters
    ≡ stamped changed (q.version + 1) q.entries (front ++ afters) =
    rw (
      split,
      stamped-rows changed (q.version + 1) front befores afters,
      stamped-changed changed (q.version + 1) befores afters differ,
    ) refl in
    rw other (chosen q (front ++ afters) _ _ (q.version == MAX_VERSION) cut)

pub ruled-batch : (q : QueueState) (dropped changed : Uris) (first : ℕ) → HaveOwnIds q.entries
    → first ≡ kept_front (λ entry. not (is_among dropped entry.uri)) q.entries
    → (first < length q.entries) ⊎ (list_any (λ entry. is_among changed entry.uri) (take first q.entries) ≡ true)
    → record q {
      entries = cond (q.version == MAX_VERSION) (map (with_stamp 1) (kept q.entries dropped))
          (marked changed (q.version + 1) (take first (kept q.entries dropped))
          ++ map (with_stamp (q.version + 1)) (drop first (kept q.entries dropped)));
      version = next_version q.version;
    }
    ≡ ruled q (kept q.entries dropped) changed
ruled-batch q dropped changed first own is some =
    let keep : Entry → Bool = λ entry. not (is_among dropped entry.uri) in
    let front : List Entry = take first q.entries in
    let befores : List Entry = drop first q.entries in
    let within : first ≤ length q.entries = omega (arith, front_fits keep q.entries) in
    let long : length front ≡ first = length-take-le first q.entries within in
    let rest : length befores ≡ length q.entries - first = length-drop first q.entries in
    let parts : kept q.entries dropped ≡ front ++ filter keep befores = rw is (before_dropped keep q.entries) in
    let differ : Differ befores (filter keep befores) = rw is (differ_dropped keep q.entries own) in
    let taken : take first (kept q.entries dropped) ≡ front = ap (take first) parts ∙ take_at front (filter keep befores) first long in
    let dropped_rest : drop first (kept q.entries dropped) ≡ filter keep befores =
    ap (drop first) parts ∙ drop_at front (filter keep befores) first long in
    rw (taken, dropped_rest, parts) (ruled-parts q front befores (filter keep befores) changed (sym (take-append-drop first q.entries))
    differ (longer rest some))
  where
    longer : length (drop first q.entries) ≡ length q.entries - first → (first < length q.entries)
        ⊎ (list_any (λ entry. is_among changed entry.uri) (take first q.entries) ≡ true)
        → (0 < length (drop first q.entries)) ⊎ (list_any (λ entry. is_among changed entry.uri) (take first q.entries) ≡ true)
    longer rest (inl some) = inl (omega arith)
    longer rest (inr row) = inr row

pub fit-kept : (q : QueueState) (dropped : Uris) → IsQueue q → AreFit q.next_id q.version (kept q.entries dropped)
fit-kept q dropped sound = fit-reordered q.next_id q.version q.entries (filter (λ entry. is_among dropped entry.uri) q.entries)
    (kept q.entries dropped) (fit-queue q sound)
    (IsPermutation-filter_both (λ entry. is_among dropped entry.uri) (λ entry. not (is_among dropped entry.uri)) (λ entry. refl) q.entries)

-- where no URI is dropped
pub kept-none : (entries : List Entry) → kept entries [] ≡ entries
kept-none [] = refl
kept-none (entry ∷ entries) = ap (λ l. entry ∷ l) (kept-none entries)
