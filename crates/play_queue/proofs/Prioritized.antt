-- The stamp rule where a priority is set on the entries of some ranges.
use Rattle.std.proofs.Common.{◌≡◌, ◌≢◌, ℕ, zero, suc, ◌+◌, ◌-◌, ◌<◌, ◌≤◌, Bool, true, false, cond, eqb, ltb, leb, ◌==◌, ◌||◌, ◌&&◌, ◌⊎◌}
use Rattle.std.proofs.Common.{inl, inr, List, [], ◌∷◌, ◌++◌, length, get_or, map, take, slice_range, refl, sym, ap, ◌∙◌, arith, zero-add}
use Rattle.std.proofs.Common.{rules}
use Rattle.std.specs.List.{All, enumerate_from}
use borrow.Rule.Slice.PartMut.{put_mid}
use Rattle.std.proofs.lemmas.Bool.{cases_lt, eq-eqb, eqb-true, ltb-true, ltb-false, leb-true, lt-leb, le-ltb, lt-ltb, le-leb}
use Rattle.std.proofs.lemmas.List.{places, length-map, get_or-map, take_more, same_lists}
use Rattle.std.proofs.lemmas.List.Elements.{All-cons, All-head, All-tail}
use Rattle.std.proofs.lemmas.List.Edits.{length-between, get_or-between}
use Rattle.std.proofs.lemmas.List.FromFn.{length-enumerate_from, get_or-enumerate_from}
use Rattle.play_queue.specs.declared.entry.Entry.{Entry}
use Rattle.play_queue.specs.Limits.{MAX_VERSION}
use Rattle.play_queue.specs.Entries.{is_in_some, with_priority, prioritized}
use Rattle.play_queue.specs.Queue.{QueueState, IsQueue, IsEntry, ids_of, is_same, is_unchanged, with_stamp, stamped, ruled}
use Rattle.play_queue.specs.Refused.{has_bad}
use Rattle.play_queue.specs.Restamp.{raised, raised_in, reprioritized, next_version, AreRanges}
use Rattle.play_queue.proofs.Ruling.{bytes_eq-same, is_same-itself, chosen}
use Rattle.play_queue.proofs.Sound.{AreFit, own_ids-same}
use Rattle.play_queue.proofs.Where.{is_unchanged-at, not_eq}

-- a list of which some positions are changed by a function of the entry
abbrev pub changed_in : (ℕ → Bool) → (Entry → Entry) → ℕ → List Entry → List Entry
changed_in test f n entries = map (λ at. cond (test at.0) (f at.1) at.1) (enumerate_from n entries)

pub get_or-changed_in : (test : ℕ → Bool) (f : Entry → Entry) (entries : List Entry) (k : ℕ) (d : Entry) → k < length entries
    → get_or (changed_in test f 0 entries) k d ≡ cond (test k) (f (get_or entries k d)) (get_or entries k d)
get_or-changed_in test f entries k d within =
    let long : length (enumerate_from 0 entries) ≡ length entries = length-enumerate_from 0 entries in
    let item : get_or (enumerate_from 0 entries) k (0, d) ≡ (k, get_or entries k d) =
    get_or-enumerate_from 0 entries k (0, d) within ∙ ap (λ j. (j, get_or entries k d)) (zero-add k) in
    get_or-map (λ at. cond (test at.0) (f at.1) at.1) (enumerate_from 0 entries) k (0, d) d (omega arith) ∙ rw item refl

pub length-changed_in : (test : ℕ → Bool) (f : Entry → Entry) (n : ℕ) (entries : List Entry)
    → length (changed_in test f n entries) ≡ length entries
length-changed_in test f n entries = length-map (enumerate_from n entries) (λ at. cond (test at.0) (f at.1) at.1)
    ∙ length-enumerate_from n entries

pub changed_in-none : (f : Entry → Entry) (n : ℕ) (entries : List Entry) → entries ≡ changed_in (λ k. false) f n entries
changed_in-none f n [] = refl
changed_in-none f n (entry ∷ entries) = ap (λ rest. entry ∷ rest) (changed_in-none f (n + 1) entries)

abbrev pub in_range : ℕ × ℕ → ℕ → Bool
in_range range at = leb range.0 at && ltb at range.1

pub is_in_some-push : (ranges : List (ℕ × ℕ)) (range : ℕ × ℕ) (k : ℕ)
    → is_in_some (ranges ++ range ∷ []) k ≡ (is_in_some ranges k || in_range range k)
is_in_some-push [] range k = or_false (in_range range k)
  where
    or_false : (b : Bool) → (b || false) ≡ b
    or_false true = refl
    or_false false = refl
is_in_some-push (other ∷ ranges) range k = ap (λ b. in_range other k || b) (is_in_some-push ranges range k)
    ∙ or_assoc (in_range other k) (is_in_some ranges k) (in_range range k)
  where
    or_assoc : (a b c : Bool) → (a || (b || c)) ≡ ((a || b) || c)
    or_assoc true b c = refl
    or_assoc false b c = refl

pub is_in_some-more : (ranges : List (ℕ × ℕ)) (i : ℕ) (d : ℕ × ℕ) (k : ℕ) → i < length ranges
    → is_in_some (take (i + 1) ranges) k ≡ (is_in_some (take i ranges) k || in_range (get_or ranges i d) k)
is_in_some-more ranges i d k within = ap (λ l. is_in_some l k) (take_more ranges i d within)
    ∙ is_in_some-push (take i ranges) (get_or ranges i d) k

pub or_cases : (a b : Bool) → (a || b) ≡ true → (a ≡ true) ⊎ (b ≡ true)
or_cases true b h = inl refl
or_cases false b h = inr h

and_parts : (a b : Bool) → (a && b) ≡ true → (a ≡ true) × (b ≡ true)
and_parts true b h = (refl, h)
and_parts false b h = absurd (cc)

-- a position in a range
pub range_parts : (range : ℕ × ℕ) (k : ℕ) → in_range range k ≡ true → (range.0 ≤ k) × (k < range.1)
range_parts range k is = let parts = and_parts (leb range.0 k) (ltb k range.1) is in (
  leb-true range.0 k parts.0,
  ltb-true k range.1 parts.1,
)

pub in_range-from : (range : ℕ × ℕ) (k : ℕ) → range.0 ≤ k → k < range.1 → in_range range k ≡ true
in_range-from range k low high = rw (le-leb range.0 k low, lt-ltb k range.1 high) refl

pub is_in_some-at : (ranges : List (ℕ × ℕ)) (i : ℕ) (d : ℕ × ℕ) (k : ℕ) → i < length ranges → in_range (get_or ranges i d) k ≡ true
    → is_in_some ranges k ≡ true
is_in_some-at [] i d k within is = absurd (omega arith)
is_in_some-at (range ∷ ranges) zero d k within is = rw is refl
is_in_some-at (range ∷ ranges) (suc i) d k within is = rw (is_in_some-at ranges i d k (omega arith) is) (or_true (in_range range k))
  where
    or_true : (b : Bool) → (b || true) ≡ true
    or_true true = refl
    or_true false = refl

-- good ranges
pub good_ranges : (ranges : List (ℕ × ℕ)) (length : ℕ) → has_bad ranges length ≡ false → AreRanges ranges length
good_ranges [] length good = λ k d within. absurd (omega arith)
good_ranges (range ∷ ranges) length good =
    let parts = or_none (ltb range.1 range.0 || ltb length range.1) (has_bad ranges length) good in
    let both = or_none (ltb range.1 range.0) (ltb length range.1) parts.0 in
    All-cons (λ r. (r.0 ≤ r.1) × (r.1 ≤ length)) range ranges (ltb-false range.1 range.0 both.0, ltb-false length range.1 both.1)
    (good_ranges ranges length parts.1)
  where
    or_none : (a b : Bool) → (a || b) ≡ false → (a ≡ false) × (b ≡ false)
    or_none true b h = absurd (cc)
    or_none false b h = (refl, h)

raised-raised : (priority stamp : ℕ) (entry : Entry) → raised priority stamp (raised priority stamp entry) ≡ raised priority stamp entry
raised-raised priority stamp entry = of (eqb entry.priority priority) refl
  where
    of : (b : Bool) → eqb entry.priority priority ≡ b
        → raised priority stamp (cond b entry (record entry { priority = priority; stamp = stamp }))
        ≡ cond b entry (record entry { priority = priority; stamp = stamp })
    of true is = rw is refl
    of false is = rw (eq-eqb priority priority refl) refl

raise_more : (priority stamp : ℕ) (entry : Entry) (a b : Bool)
    → cond b (raised priority stamp (cond a (raised priority stamp entry) entry)) (cond a (raised priority stamp entry) entry)
    ≡ cond (a || b) (raised priority stamp entry) entry
raise_more priority stamp entry true true = raised-raised priority stamp entry
raise_more priority stamp entry true false = refl
raise_more priority stamp entry false true = refl
raise_more priority stamp entry false false = refl

below_mid : (a n : ℕ) (xs ys : List Entry) (k : ℕ) (d : Entry) → a ≤ length xs → k < a → get_or (put_mid a n xs ys) k d ≡ get_or xs k d
below_mid a n xs ys k d within below = search (rules, places)

in_mid : (a n : ℕ) (xs ys : List Entry) (k : ℕ) (d : Entry) → a ≤ length xs → a ≤ k → k < a + length ys
    → get_or (put_mid a n xs ys) k d ≡ get_or ys (k - a) d
in_mid a n xs ys k d within low high = search (rules, places)

above_mid : (a n : ℕ) (xs ys : List Entry) (k : ℕ) (d : Entry) → a + n ≤ length xs → length ys ≡ n → a + n ≤ k
    → get_or (put_mid a n xs ys) k d ≡ get_or xs k d
above_mid a n xs ys k d within long high = search (rules, places)

pub length-mid : (a n : ℕ) (xs ys : List Entry) → a + n ≤ length xs → length ys ≡ n → length (put_mid a n xs ys) ≡ length xs
length-mid a n xs ys within long = search (rules, places)

not_in_below : (range : ℕ × ℕ) (k : ℕ) → k < range.0 → in_range range k ≡ false
not_in_below range k below = rw (lt-leb range.0 k below) refl

not_in_above : (range : ℕ × ℕ) (k : ℕ) → range.1 ≤ k → in_range range k ≡ false
not_in_above range k above = rw (le-ltb k range.1 above) (and_false (leb range.0 k))
  where
    and_false : (b : Bool) → (b && false) ≡ false
    and_false true = refl
    and_false false = refl

-- the code's step: the entries of one range are raised
pub raised_range : (now : List Entry) (range : ℕ × ℕ) (priority stamp : ℕ) (k : ℕ) (d : Entry) → range.0 ≤ range.1 → range.1 ≤ length now
    → k < length now → get_or (put_mid range.0 (range.1 - range.0) now (map (raised priority stamp) (slice_range now range.0 range.1))) k d
    ≡ cond (in_range range k) (raised priority stamp (get_or now k d)) (get_or now k d)
raised_range now range priority stamp k d forward fits within = of (cases_lt k range.0) (cases_lt k range.1)
  where
    part : List Entry
    part = slice_range now range.0 range.1

    long : length (slice_range now range.0 range.1) ≡ range.1 - range.0
    long = length-between now range.0 range.1 fits

    mapped : length (map (raised priority stamp) (slice_range now range.0 range.1)) ≡ range.1 - range.0
    mapped = length-map (slice_range now range.0 range.1) (raised priority stamp) ∙ long

    of : (k < range.0) ⊎ (range.0 ≤ k) → (k < range.1) ⊎ (range.1 ≤ k)
        → get_or (put_mid range.0 (range.1 - range.0) now (map (raised priority stamp) (slice_range now range.0 range.1))) k d
        ≡ cond (in_range range k) (raised priority stamp (get_or now k d)) (get_or now k d)
    of (inl below) high = below_mid range.0 (range.1 - range.0) now _ k d (omega arith) below ∙ rw (not_in_below range k below) refl
    of (inr low) (inl high) =
        let at : range.0 + (k - range.0) ≡ k = omega arith in
        let inside : k - range.0 < length (slice_range now range.0 range.1) = omega (arith, long) in
        let read : get_or (slice_range now range.0 range.1) (k - range.0) d ≡ get_or now k d =
        get_or-between now range.0 range.1 (k - range.0) d (omega arith) ∙ ap (λ m. get_or now m d) at in
        in_mid range.0 (range.1 - range.0) now _ k d (omega arith) low (omega (arith, mapped))
        ∙ get_or-map (raised priority stamp) (slice_range now range.0 range.1) (k - range.0) d d inside
        ∙ rw (read, in_range-from range k low high) refl
    of (inr low) (inr above) = above_mid range.0 (range.1 - range.0) now _ k d (omega arith) mapped (omega arith)
        ∙ rw (not_in_above range k above) refl

pub raised_in-more : (entries now : List Entry) (ranges : List (ℕ × ℕ)) (i : ℕ) (priority stamp : ℕ) (r : ℕ × ℕ) → i < length ranges
    → AreRanges ranges (length entries) → now ≡ raised_in (take i ranges) priority stamp entries
    → put_mid (get_or ranges i r).0 ((get_or ranges i r).1 - (get_or ranges i r).0) now
    (map (raised priority stamp) (slice_range now (get_or ranges i r).0 (get_or ranges i r).1))
    ≡ raised_in (take (i + 1) ranges) priority stamp entries
raised_in-more entries now ranges i priority stamp r within good is =
    let range = get_or ranges i r in
    let fits = good i r within in
    let same : length now ≡ length entries =
    ap length is ∙ length-changed_in (λ k. is_in_some (take i ranges) k) (raised priority stamp) 0 entries in
    let part : length (map (raised priority stamp) (slice_range now range.0 range.1)) ≡ range.1 - range.0 =
    length-map (slice_range now range.0 range.1) (raised priority stamp)
    ∙ length-between now range.0 range.1 (omega (arith, fits.1)) in
    let long : length (put_mid range.0 (range.1 - range.0) now (map (raised priority stamp) (slice_range now range.0 range.1)))
    ≡ length now = length-mid range.0 (range.1 - range.0) now _ (omega (arith, fits.0, fits.1)) part in
    same_lists _ _ (long ∙ same ∙ sym (length-changed_in (λ k. is_in_some (take (i + 1) ranges) k) (raised priority stamp) 0 entries))
    (λ k d in_list.
    let in_now : k < length now = omega (arith, long) in
    let in_entries : k < length entries = omega arith in
    let e : Entry = get_or entries k d in
    let read : get_or now k d ≡ cond (is_in_some (take i ranges) k) (raised priority stamp e) e =
    ap (λ l. get_or l k d) is ∙ get_or-changed_in (λ m. is_in_some (take i ranges) m) (raised priority stamp) entries k d
    in_entries in
    let step : cond (in_range range k) (raised priority stamp (get_or now k d)) (get_or now k d)
    ≡ cond (is_in_some (take i ranges) k || in_range range k) (raised priority stamp e) e =
    rw read (raise_more priority stamp e (is_in_some (take i ranges) k) (in_range range k)) in
    let after : get_or (raised_in (take (i + 1) ranges) priority stamp entries) k d
    ≡ cond (is_in_some (take (i + 1) ranges) k) (raised priority stamp e) e =
    get_or-changed_in (λ m. is_in_some (take (i + 1) ranges) m) (raised priority stamp) entries k d in_entries in
    raised_range now range priority stamp k d fits.0 (omega (arith, fits.1)) in_now ∙ step
    ∙ sym (rw (is_in_some-more ranges i r k within) at after))

-- the rule where the code has raised
raised-stamped : (priority stamp : ℕ) (test : Bool) (entry : Entry)
    → cond (is_same [] entry (cond test (with_priority priority entry) entry)) entry
    (with_stamp stamp (cond test (with_priority priority entry) entry)) ≡ cond test (raised priority stamp entry) entry
raised-stamped priority stamp false entry = rw (is_same-itself entry) refl
raised-stamped priority stamp true entry = rw (eq-eqb entry.id entry.id refl, bytes_eq-same entry.uri) (of (eqb entry.priority priority))
  where
    of : (b : Bool) → cond (b && true) entry (with_stamp stamp (with_priority priority entry))
        ≡ cond b entry (record entry { priority = priority; stamp = stamp })
    of true = refl
    of false = refl

pub stamped-prioritized : (ranges : List (ℕ × ℕ)) (priority stamp n : ℕ) (entries : List Entry)
    → stamped [] stamp entries (changed_in (is_in_some ranges) (with_priority priority) n entries)
    ≡ changed_in (is_in_some ranges) (raised priority stamp) n entries
stamped-prioritized ranges priority stamp n [] = refl
stamped-prioritized ranges priority stamp n (entry ∷ entries) =
    rw (raised-stamped priority stamp (is_in_some ranges n) entry, stamped-prioritized ranges priority stamp (n + 1) entries) refl

-- at the greatest version
raised-first : (priority : ℕ) (test : Bool) (entry : Entry)
    → with_stamp 1 (cond test (raised priority 1 entry) entry) ≡ with_stamp 1 (cond test (with_priority priority entry) entry)
raised-first priority false entry = refl
raised-first priority true entry = of (eqb entry.priority priority) refl
  where
    of : (b : Bool) → eqb entry.priority priority ≡ b
        → with_stamp 1 (cond b entry (record entry { priority = priority; stamp = 1 })) ≡ with_stamp 1 (with_priority priority entry)
    of true is = ap (λ (p : ℕ). let e : Entry = record entry { priority = p; stamp = 1 } in e) (eqb-true entry.priority priority is)
    of false is = refl

firsts-prioritized : (ranges : List (ℕ × ℕ)) (priority n : ℕ) (entries : List Entry)
    → map (with_stamp 1) (changed_in (is_in_some ranges) (raised priority 1) n entries)
    ≡ map (with_stamp 1) (changed_in (is_in_some ranges) (with_priority priority) n entries)
firsts-prioritized ranges priority n [] = refl
firsts-prioritized ranges priority n (entry ∷ entries) =
    rw (raised-first priority (is_in_some ranges n) entry, firsts-prioritized ranges priority (n + 1) entries) refl

-- an entry in some range had another priority
other_priority : (priority : ℕ) (entry : Entry) → entry.priority ≢ priority → is_same [] entry (with_priority priority entry) ≡ false
other_priority priority entry other = rw (eq-eqb entry.id entry.id refl, not_eq entry.priority priority other) refl

pub ruled-prioritized : (q : QueueState) (ranges : List (ℕ × ℕ)) (priority : ℕ)
    → (k : ℕ) × (k < length q.entries) × (is_in_some ranges k ≡ true) × ((d : Entry) → (get_or q.entries k d).priority ≢ priority)
    → record q { entries = reprioritized q.version ranges priority q.entries; version = next_version q.version }
    ≡ ruled q (prioritized q.entries ranges priority) []
ruled-prioritized q ranges priority found = by_first q.entries refl
  where
    by_first : (entries : List Entry) → q.entries ≡ entries
        → record q { entries = reprioritized q.version ranges priority q.entries; version = next_version q.version }
        ≡ ruled q (prioritized q.entries ranges priority) []
    by_first [] none = absurd (omega (arith, found.1, ap length none))
    by_first (d ∷ entries) some =
        let news : List Entry = prioritized q.entries ranges priority in
        let read : get_or news found.0 d ≡ with_priority priority (get_or q.entries found.0 d) =
        get_or-changed_in (is_in_some ranges) (with_priority priority) q.entries found.0 d found.1 ∙ rw (found.2) refl in
        let other : is_same [] (get_or q.entries found.0 d) (get_or news found.0 d) ≡ false =
        rw read (other_priority priority (get_or q.entries found.0 d) (found.3 d)) in
        let long : length news ≡ length q.entries = length-changed_in (is_in_some ranges) (with_priority priority) 0 q.entries in
        let changed : is_unchanged [] q.entries news ≡ false =
        is_unchanged-at [] q.entries news found.0 d found.1 (omega (arith, found.1)) other in
        rw (changed, firsts-prioritized ranges priority 0 q.entries)
        (chosen q news _ _ (q.version == MAX_VERSION) (sym (stamped-prioritized ranges priority (q.version + 1) 0 q.entries)))

-- nothing to set
with_priority-same : (priority : ℕ) (entry : Entry) → entry.priority ≡ priority → with_priority priority entry ≡ entry
with_priority-same priority entry same = ap (λ (p : ℕ). let e : Entry = record entry { priority = p } in e) (sym same)

pub prioritized-same : (entries : List Entry) (ranges : List (ℕ × ℕ)) (priority : ℕ)
    → ((k : ℕ) (d : Entry) → k < length entries → is_in_some ranges k ≡ true → (get_or entries k d).priority ≡ priority)
    → prioritized entries ranges priority ≡ entries
prioritized-same entries ranges priority all =
    same_lists _ _ (length-changed_in (is_in_some ranges) (with_priority priority) 0 entries)
    (λ k d within.
    let in_entries : k < length entries =
    omega (arith, length-changed_in (is_in_some ranges) (with_priority priority) 0 entries) in
    get_or-changed_in (is_in_some ranges) (with_priority priority) entries k d in_entries
    ∙ of k d (is_in_some ranges k) (all k d in_entries))
  where
    of : (k : ℕ) (d : Entry) (b : Bool) → (b ≡ true → (get_or entries k d).priority ≡ priority)
        → cond b (with_priority priority (get_or entries k d)) (get_or entries k d) ≡ get_or entries k d
    of k d true same = with_priority-same priority (get_or entries k d) (same refl)
    of k d false same = refl

ids-prioritized : (ranges : List (ℕ × ℕ)) (priority n : ℕ) (entries : List Entry)
    → ids_of (changed_in (is_in_some ranges) (with_priority priority) n entries) ≡ ids_of entries
ids-prioritized ranges priority n [] = refl
ids-prioritized ranges priority n (entry ∷ entries) =
    rw (ids-prioritized ranges priority (n + 1) entries) (ap (λ id. id ∷ ids_of entries) (of (is_in_some ranges n)))
  where
    of : (b : Bool) → (cond b (with_priority priority entry) entry).id ≡ entry.id
    of true = refl
    of false = refl

all-prioritized : (next version : ℕ) (ranges : List (ℕ × ℕ)) (priority n : ℕ) (entries : List Entry) → All (IsEntry next version) entries
    → All (IsEntry next version) (changed_in (is_in_some ranges) (with_priority priority) n entries)
all-prioritized next version ranges priority n [] all = λ k d within. absurd (omega arith)
all-prioritized next version ranges priority n (entry ∷ entries) all =
    All-cons (IsEntry next version) _ _ (of (is_in_some ranges n) (All-head (IsEntry next version) entry entries all))
    (all-prioritized next version ranges priority (n + 1) entries (All-tail (IsEntry next version) entry entries all))
  where
    of : (b : Bool) → IsEntry next version entry → IsEntry next version (cond b (with_priority priority entry) entry)
    of true fit = record { id_low = fit.id_low; id_used = fit.id_used; stamp_low = fit.stamp_low; stamp_high = fit.stamp_high }
    of false fit = fit

pub fit-prioritized : (q : QueueState) (ranges : List (ℕ × ℕ)) (priority : ℕ) → IsQueue q
    → AreFit q.next_id q.version (prioritized q.entries ranges priority)
fit-prioritized q ranges priority sound = record {
  few = omega (arith, sound.few, length-changed_in (is_in_some ranges) (with_priority priority) 0 q.entries);
  entry = all-prioritized q.next_id q.version ranges priority 0 q.entries sound.entry;
  own_ids = own_ids-same (prioritized q.entries ranges priority) q.entries (ids-prioritized ranges priority 0 q.entries) sound.own_ids;
}
