-- The version stays exactly where nothing has changed; which moves, swaps and priorities change something.
use Rattle.std.proofs.Common.{◌≡◌, ◌≢◌, ℕ, ◌+◌, ◌-◌, ◌<◌, ◌≤◌, ◌↔◌, Bool, true, false, not, cond, eqb, ltb, leb, ◌==◌, ◌&&◌, ◌||◌, ◌⊎◌, inl}
use Rattle.std.proofs.Common.{inr, List, [], length, get_or, map, Option, None, Some, refl, sym, ap, ◌∙◌, arith}
use Rattle.std.specs.Bool.{OnTrue, OnFalse}
use Rattle.std.specs.List.{swap}
use Rattle.std.proofs.lemmas.Bool.{cases_lt, cases_eq, eqb-true, eq-eqb, ltb-false, lt-ltb, le-ltb, le-leb}
use Rattle.play_queue.specs.declared.entry.Entry.{Entry}
use Rattle.play_queue.specs.Limits.{MAX_VERSION}
use Rattle.play_queue.specs.Entries.{Uris, is_in_some, moved, prioritized}
use Rattle.play_queue.specs.Queue.{QueueState, HaveOwnIds, is_unchanged, with_stamp, stamped, ruled, VersionTellsChanges}
use Rattle.play_queue.specs.Ranges.{HaveSamePositions}
use Rattle.play_queue.specs.Refused.{move_refusal, swap_refusal}
use Rattle.play_queue.specs.Restamp.{next_version, exchanged}
use Rattle.play_queue.proofs.Blocks.{moved-up, moved-down, moved-none, moved-back}
use Rattle.play_queue.proofs.Exchanged.{ruled-exchanged}
use Rattle.play_queue.proofs.Prioritized.{ruled-prioritized, prioritized-same}
use Rattle.play_queue.proofs.Ruling.{is_unchanged-itself}
use Rattle.play_queue.proofs.Where.{ruled-swapped, swap-itself, not_eq}

pub tells_changes : (q : QueueState) → VersionTellsChanges q
tells_changes q afters changed = of (map (with_stamp 1) afters) (stamped changed (q.version + 1) q.entries afters)
    (is_unchanged changed q.entries afters) (q.version == MAX_VERSION) refl
  where
    of : (one other : List Entry) (b m : Bool) → (q.version == MAX_VERSION) ≡ m
        → ((cond b q (cond m (record q { entries = one; version = 1 }) (record q { entries = other; version = q.version + 1 }))).version
        ≡ q.version) ↔ (b ≡ true)
    of one other true m is = (λ same. refl, λ yes. refl)
    of one other false true is = (λ same. absurd (omega (arith, eqb-true q.version MAX_VERSION is)), λ yes. absurd (cc))
    of one other false false is = (λ same. absurd (omega arith), λ yes. absurd (cc))

next-other : (version : ℕ) → next_version version ≡ version → ⊥
next-other version same = of (version == MAX_VERSION) refl same
  where
    of : (m : Bool) → (version == MAX_VERSION) ≡ m → cond m 1 (version + 1) ≡ version → ⊥
    of true is same = omega (arith, eqb-true version MAX_VERSION is)
    of false is same = omega arith

-- what the rule gives the next version has changed
pub changed-from_next : (q : QueueState) (entries afters : List Entry) (changed : Uris)
    → record q { entries = entries; version = next_version q.version } ≡ ruled q afters changed
    → is_unchanged changed q.entries afters ≡ false
changed-from_next q entries afters changed made = of (is_unchanged changed q.entries afters) refl
  where
    of : (b : Bool) → is_unchanged changed q.entries afters ≡ b → b ≡ false
    of false is = refl
    of true is =
        let version : next_version q.version ≡ (ruled q afters changed).version = ap (λ (s : QueueState). s.version) made in
        absurd (next-other q.version (version ∙ (tells_changes q afters changed).1 is))

or_none : (a b : Bool) → (a || b) ≡ false → (a ≡ false) × (b ≡ false)
or_none true b h = absurd (cc)
or_none false b h = (refl, h)

cond_none : {X : Type 0} (b : Bool) (x : X) (rest : Option X) → cond b (Some x) rest ≡ None → (b ≡ false) × (rest ≡ None)
cond_none true x rest none = absurd (cc)
cond_none false x rest none = (refl, none)

pub move_fits : (entries : List Entry) (start end to : ℕ) → move_refusal entries start end to ≡ None
    → (start ≤ end) × (end ≤ length entries) × (to ≤ length entries - (end - start))
move_fits entries start end to none =
    let first = cond_none (ltb end start || ltb (length entries) end) _ _ none in
    let range = or_none (ltb end start) (ltb (length entries) end) first.0 in
    let second = cond_none (ltb (length entries - (end - start)) to) _ _ first.1 in
    (ltb-false end start range.0, ltb-false (length entries) end range.1, ltb-false (length entries - (end - start)) to second.0)

leb-false : (a b : ℕ) → leb a b ≡ false → b < a
leb-false a b is = of (cases_lt b a)
  where
    of : (b < a) ⊎ (a ≤ b) → b < a
    of (inl below) = below
    of (inr above) = absurd (let yes : leb a b ≡ true = le-leb a b above in cc)

pub swap_fits : (entries : List Entry) (one other : ℕ) → swap_refusal entries one other ≡ None
    → (one < length entries) × (other < length entries)
swap_fits entries one other none =
    let first = cond_none (leb (length entries) one || leb (length entries) other) _ _ none in
    let both = or_none (leb (length entries) one) (leb (length entries) other) first.0 in
    (leb-false (length entries) one both.0, leb-false (length entries) other both.1)

-- a move changes something exactly where its block has entries and stands elsewhere
pub would-move : (q : QueueState) → HaveOwnIds q.entries → (start end to : ℕ) → start ≤ end → end ≤ length q.entries
    → to ≤ length q.entries - (end - start)
    → (ltb start end && not (eqb start to)) ≡ not (is_unchanged [] q.entries (moved q.entries start end to))
would-move q own start end to forward within place = of (cases_lt start end) (cases_lt to start) (cases_eq start to)
  where
    changes : (low middle high : ℕ) → low < middle → middle < high → high ≤ length q.entries
        → moved q.entries start end to ≡ exchanged q.entries low middle high
        → not (is_unchanged [] q.entries (moved q.entries start end to)) ≡ true
    changes low middle high below above fits is =
        rw (is, changed-from_next q _ (exchanged q.entries low middle high) [] (ruled-exchanged q low middle high own below above fits))
        refl

    of : (start < end) ⊎ (end ≤ start) → (to < start) ⊎ (start ≤ to) → (start ≡ to) ⊎ (start ≢ to)
        → (ltb start end && not (eqb start to)) ≡ not (is_unchanged [] q.entries (moved q.entries start end to))
    of (inr none) side same =
        let empty : start ≡ end = omega arith in
        let itself : moved q.entries start end to ≡ q.entries = rw empty (moved-none q.entries end to) in
        rw (le-ltb start end none, itself, is_unchanged-itself q.entries) refl
    of (inl some) side (inl same) =
        let itself : moved q.entries start end to ≡ q.entries = rw (sym same) (moved-back q.entries start end forward within) in
        rw (eq-eqb start to same, itself, is_unchanged-itself q.entries, lt-ltb start end some) refl
    of (inl some) (inl up) (inr apart) =
        rw (
          lt-ltb start end some,
          not_eq start to apart,
          changes to start end up some within (moved-up q.entries start end to up forward within),
        ) refl
    of (inl some) (inr down) (inr apart) =
        rw (
          lt-ltb start end some,
          not_eq start to apart,
          changes start end (to + (end - start)) some (omega arith) (omega arith)
              (moved-down q.entries start end to (omega arith) forward within place),
        ) refl

-- a swap does where it is of two entries
pub would-swap : (q : QueueState) → HaveOwnIds q.entries → (one other : ℕ) → one < length q.entries → other < length q.entries
    → not (eqb one other) ≡ not (is_unchanged [] q.entries (swap q.entries one other))
would-swap q own one other in_one in_other = of (cases_eq one other)
  where
    of : (one ≡ other) ⊎ (one ≢ other) → not (eqb one other) ≡ not (is_unchanged [] q.entries (swap q.entries one other))
    of (inl same) =
        let itself : swap q.entries one other ≡ q.entries = rw same (swap-itself q.entries other) in
        rw (eq-eqb one other same, itself, is_unchanged-itself q.entries) refl
    of (inr apart) = rw (
      not_eq one other apart,
      changed-from_next q _ (swap q.entries one other) [] (ruled-swapped q one other own in_one in_other apart),
    ) refl

-- a priority does where some entry of the ranges has another one
pub would-prio : (q : QueueState) (ranges merged : List (ℕ × ℕ)) (priority : ℕ) (b : Bool) → HaveSamePositions merged ranges
    → OnTrue b ((k : ℕ) × (k < length q.entries) × (is_in_some merged k ≡ true)
    × ((d : Entry) → (get_or q.entries k d).priority ≢ priority))
    → OnFalse b ((k : ℕ) (d : Entry) → k < length q.entries → is_in_some merged k ≡ true → (get_or q.entries k d).priority ≡ priority)
    → b ≡ not (is_unchanged [] q.entries (prioritized q.entries ranges priority))
would-prio q ranges merged priority true same some none =
    rw (changed-from_next q _ (prioritized q.entries ranges priority) []
    (ruled-prioritized q ranges priority (some.0, some.1, sym (same some.0) ∙ some.2, some.3))) refl
would-prio q ranges merged priority false same some none =
    rw (prioritized-same q.entries ranges priority (λ k d within is. none k d within (same k ∙ is)), is_unchanged-itself q.entries) refl
