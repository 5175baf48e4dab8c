-- The stamp rule where a range of positions has changed and no other.
use Rattle.std.proofs.Common.{◌≡◌, ◌≢◌, ℕ, suc, ◌+◌, ◌-◌, ◌<◌, ◌≤◌, Bool, true, false, cond, ◌==◌, eqb, ◌⊎◌, inl, inr, List, [], ◌∷◌, ◌++◌}
use Rattle.std.proofs.Common.{length, get_or, map, take, drop, slice_range, refl, sym, ap, ◌∙◌, arith}
use Rattle.std.specs.Str.{bytes_eq}
use Rattle.std.proofs.lemmas.Slice.Eq.{bytes_eq-Decides}
use Rattle.std.proofs.lemmas.Bool.{eq-eqb}
use Rattle.std.proofs.lemmas.Bool.Decides.{eqb_tells}
use Rattle.std.proofs.lemmas.List.{take_at, drop_at, drop_all, append-nil, length-map, length-take-le, take-append-drop, length-drop}
use Rattle.std.proofs.lemmas.List.{drop-map, get_or-drop}
use Rattle.play_queue.proofs.OwnIds.{differ_at}
use Rattle.std.proofs.lemmas.Slice.{between_to_end}
use Rattle.play_queue.specs.declared.entry.Entry.{Entry}
use Rattle.play_queue.specs.Limits.{MAX_VERSION}
use Rattle.play_queue.specs.Entries.{Uris, deleted}
use Rattle.play_queue.specs.Queue.{QueueState, ids_of, HaveOwnIds, is_same, is_unchanged, with_stamp, stamped, ruled}
use Rattle.play_queue.specs.Restamp.{restamped, next_version}

-- no position that both lists have has the same id in both
abbrev pub Differ : List Entry → List Entry → Type 0
Differ befores afters = (k : ℕ) → k < length befores → k < length afters → get_or (ids_of befores) k 0 ≢ get_or (ids_of afters) k 0

pub bytes_eq-same : (uri : List ℕ) → bytes_eq uri uri ≡ true
bytes_eq-same uri = (bytes_eq-Decides uri uri).1 refl

pub is_same-itself : (entry : Entry) → is_same [] entry entry ≡ true
is_same-itself entry = rw (eq-eqb entry.id entry.id refl, eq-eqb entry.priority entry.priority refl, bytes_eq-same entry.uri) refl

pub is_same-other_id : (changed : Uris) (before after : Entry) → before.id ≢ after.id → is_same changed before after ≡ false
is_same-other_id changed before after other = by_cases (eqb_tells before.id after.id)
  where
    by_cases : ((eqb before.id after.id ≡ true) × (before.id ≡ after.id)) ⊎ ((eqb before.id after.id ≡ false) × (before.id ≢ after.id))
        → is_same changed before after ≡ false
    by_cases (inl same) = absurd (other same.1)
    by_cases (inr apart) = rw (apart.0) refl

pub stamped-itself : (stamp : ℕ) (entries : List Entry) → stamped [] stamp entries entries ≡ entries
stamped-itself stamp [] = refl
stamped-itself stamp (entry ∷ entries) = rw (is_same-itself entry, stamped-itself stamp entries) refl

-- what stands in front of the changed range
pub stamped-front : (stamp : ℕ) (front befores afters : List Entry)
    → stamped [] stamp (front ++ befores) (front ++ afters) ≡ front ++ stamped [] stamp befores afters
stamped-front stamp [] befores afters = refl
stamped-front stamp (entry ∷ front) befores afters = rw (is_same-itself entry, stamped-front stamp front befores afters) refl

pub is_unchanged-front : (front befores afters : List Entry)
    → is_unchanged [] (front ++ befores) (front ++ afters) ≡ is_unchanged [] befores afters
is_unchanged-front [] befores afters = refl
is_unchanged-front (entry ∷ front) befores afters = rw (is_same-itself entry, is_unchanged-front front befores afters) refl

differ_rest : (before after : Entry) (befores afters : List Entry) → Differ (before ∷ befores) (after ∷ afters) → Differ befores afters
differ_rest before after befores afters differ k in_befores in_afters = differ (suc k) (omega arith) (omega arith)

-- each position has changed, and a range of as many entries behind has not
pub stamped-changed : (changed : Uris) (stamp : ℕ) (befores afters : List Entry) → Differ befores afters
    → stamped changed stamp befores afters ≡ map (with_stamp stamp) afters
stamped-changed changed stamp befores [] differ = refl
stamped-changed changed stamp [] (after ∷ afters) differ =
    ap (λ rest. with_stamp stamp after ∷ rest) (stamped-changed changed stamp [] afters (λ k in_befores in_afters. absurd (omega arith)))
stamped-changed changed stamp (before ∷ befores) (after ∷ afters) differ =
    rw (
      is_same-other_id changed before after (differ 0 (omega arith) (omega arith)),
      stamped-changed changed stamp befores afters (differ_rest before after befores afters differ),
    ) refl

pub stamped-back : (stamp : ℕ) (befores afters back : List Entry) → length befores ≡ length afters
    → stamped [] stamp (befores ++ back) (afters ++ back) ≡ stamped [] stamp befores afters ++ back
stamped-back stamp [] [] back long = stamped-itself stamp back
stamped-back stamp [] (after ∷ afters) back long = absurd (omega arith)
stamped-back stamp (before ∷ befores) [] back long = absurd (omega arith)
stamped-back stamp (before ∷ befores) (after ∷ afters) back long = rw (stamped-back stamp befores afters back (omega arith)) refl

pub is_unchanged-changed : (changed : Uris) (befores afters : List Entry) → Differ befores afters → 0 < length befores + length afters
    → is_unchanged changed befores afters ≡ false
is_unchanged-changed changed [] [] differ some = absurd (omega arith)
is_unchanged-changed changed [] (after ∷ afters) differ some = refl
is_unchanged-changed changed (before ∷ befores) [] differ some = refl
is_unchanged-changed changed (before ∷ befores) (after ∷ afters) differ some =
    rw (is_same-other_id changed before after (differ 0 (omega arith) (omega arith))) refl

-- the version and the stamps after a change
pub chosen : (q : QueueState) (afters restamps stamps : List Entry) (b : Bool) → restamps ≡ stamps
    → record q { entries = cond b (map (with_stamp 1) afters) restamps; version = cond b 1 (q.version + 1) }
    ≡ cond b (record q { entries = map (with_stamp 1) afters; version = 1 }) (record q { entries = stamps; version = q.version + 1 })
chosen q afters restamps stamps true same = refl
chosen q afters restamps stamps false same = ap (λ entries. record q { entries = entries; version = q.version + 1 }) same

-- what stands from one position on differs from what stands from a later one on
pub differ_drop : (entries : List Entry) (start end : ℕ) → HaveOwnIds entries → start < end → Differ (drop start entries) (drop end entries)
differ_drop entries start end own below k in_befores in_afters =
    let ids : List ℕ = ids_of entries in
    let long : length ids ≡ length entries = length-map entries (λ entry. entry.id) in
    rw (
      ← drop-map (λ entry. entry.id) start entries,
      ← drop-map (λ entry. entry.id) end entries,
      get_or-drop start ids k 0,
      get_or-drop end ids k 0,
    ) (differ_at ids (start + k) (end + k) own (omega (arith, long, length-drop start entries))
    (omega (arith, long, length-drop end entries)) (omega arith))

-- from one position on all has changed
pub ruled-tail : (q : QueueState) (front befores afters : List Entry) → q.entries ≡ front ++ befores → Differ befores afters
    → 0 < length befores + length afters
    → record q {
      entries = restamped q.version (length front) (length (front ++ afters)) (front ++ afters);
      version =
          next_version q.version;
    } ≡ ruled q (front ++ afters) []
ruled-tail q front befores afters split differ some =
    let changed : is_unchanged [] q.entries (front ++ afters) ≡ false =
    rw split (is_unchanged-front front befores afters ∙ is_unchanged-changed [] befores afters differ some) in
    let cut : take (length front) (front ++ afters)
    ++ (map (with_stamp (q.version + 1)) (slice_range (front ++ afters) (length front) (length (front ++ afters)))
    ++ drop (length (front ++ afters)) (front ++ afters)) ≡ stamped [] (q.version + 1) q.entries (front ++ afters) =
    rw (
      split,
      stamped-front (q.version + 1) front befores afters,
      stamped-changed [] (q.version + 1) befores afters differ,
      take_at front afters (length front) refl,
      between_to_end (front ++ afters) (length front) (length (front ++ afters)) (omega arith),
      drop_at front afters (length front) refl,
      drop_all (length (front ++ afters)) (front ++ afters) (omega arith),
      append-nil (map (with_stamp (q.version + 1)) afters),
    ) refl in
    rw changed (chosen q (front ++ afters) _ _ (q.version == MAX_VERSION) cut)

-- a deletion
pub ruled-deleted : (q : QueueState) (start end : ℕ) → HaveOwnIds q.entries → start < end → end ≤ length q.entries
    → record q {
      entries = restamped q.version start (length (deleted q.entries start end)) (deleted q.entries start end);
      version =
          next_version q.version;
    } ≡ ruled q (deleted q.entries start end) []
ruled-deleted q start end own below within =
    let long : length (take start q.entries) ≡ start = length-take-le start q.entries (omega arith) in
    let rest : length (drop start q.entries) ≡ length q.entries - start = length-drop start q.entries in
    let made = ruled-tail q (take start q.entries) (drop start q.entries) (drop end q.entries) (sym (take-append-drop start q.entries))
    (differ_drop q.entries start end own below) (omega arith) in
    rw long at made

pub is_unchanged-itself : (entries : List Entry) → is_unchanged [] entries entries ≡ true
is_unchanged-itself [] = refl
is_unchanged-itself (entry ∷ entries) = rw (is_same-itself entry, is_unchanged-itself entries) refl

-- an edit that changes nothing
pub ruled-itself : (q : QueueState) (afters : List Entry) → afters ≡ q.entries → ruled q afters [] ≡ q
ruled-itself q afters same = rw (same, is_unchanged-itself q.entries) refl
