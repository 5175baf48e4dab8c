-- Ranges of positions, and the same positions as ranges that don't meet.
use Rattle.std.proofs.Common.{◌≡◌, ℕ, ◌+◌, ◌-◌, ◌<◌, ◌≤◌, Bool, true, false, cond, ◌==◌, ◌||◌, ◌⊎◌, inl, inr, List, [], ◌∷◌, length, get_or}
use Rattle.std.proofs.Common.{map, take, max, refl, sym, ap, ◌∙◌, arith}
use Rattle.std.specs.List.Sorted.{IsPermutation}
use Rattle.std.proofs.lemmas.Bool.{cases_lt}
use Rattle.std.proofs.lemmas.List.Elements.{All-tail}
use Rattle.std.proofs.lemmas.List.Sorted.{list_any-IsPermutation}
use Rattle.play_queue.specs.declared.entry.Entry.{Entry}
use Rattle.play_queue.specs.Entries.{is_in_some}
use Rattle.play_queue.specs.Limits.{MAX_VERSION}
use Rattle.play_queue.specs.Queue.{with_stamp}
use Rattle.play_queue.specs.Ranges.{is_in_range, HaveSamePositions, AreMerged}
use Rattle.play_queue.specs.Restamp.{raised, raised_in, reprioritized, AreRanges}
use Rattle.play_queue.proofs.Prioritized.{changed_in, is_in_some-more, is_in_some-at, range_parts, in_range-from, or_cases}

same_test : (a b : Bool) → (a ≡ true → b ≡ true) → (b ≡ true → a ≡ true) → a ≡ b
same_test true b there back = sym (there refl)
same_test false true there back = absurd (let no : false ≡ true = back refl in cc)
same_test false false there back = refl

or_left : (a b : Bool) → a ≡ true → (a || b) ≡ true
or_left true b is = refl
or_left false b is = absurd (cc)

or_right : (a b : Bool) → b ≡ true → (a || b) ≡ true
or_right true b is = refl
or_right false b is = is

or_assoc : (a b c : Bool) → (a || (b || c)) ≡ ((a || b) || c)
or_assoc true b c = refl
or_assoc false b c = refl

-- a range that another one goes on
pub grown : (start end : ℕ) (range : ℕ × ℕ) (at : ℕ) → start ≤ range.0 → range.0 ≤ end
    → is_in_range (start, max end range.1) at ≡ (is_in_range (start, end) at || is_in_range range at)
grown start end range at low fits =
    same_test _ _ (λ yes. there (range_parts (start, max end range.1) at yes) (cases_lt at end))
    (λ yes. back (or_cases (is_in_range (start, end) at) (is_in_range range at) yes))
  where
    there : (start ≤ at) × (at < max end range.1) → (at < end) ⊎ (end ≤ at) → (is_in_range (start, end) at || is_in_range range at) ≡ true
    there parts (inl below) = or_left (is_in_range (start, end) at) (is_in_range range at) (in_range-from (start, end) at parts.0 below)
    there parts (inr above) = or_right (is_in_range (start, end) at) (is_in_range range at)
        (in_range-from range at (omega arith) (omega (arith, parts.1)))

    back : (is_in_range (start, end) at ≡ true) ⊎ (is_in_range range at ≡ true) → is_in_range (start, max end range.1) at ≡ true
    back (inl first) = let parts = range_parts (start, end) at first in in_range-from (start, max end range.1)
        at parts.0 (omega (arith, parts.1))
    back (inr second) = let parts = range_parts range at second in in_range-from (start, max end range.1)
        at (omega (arith, parts.0)) (omega (arith, parts.1))

-- one more range of a list is looked at: it goes on the last one, or the last one is added
pub grow_more : (sorted merged : List (ℕ × ℕ)) (start end i at : ℕ) (d : ℕ × ℕ) → i < length sorted → start ≤ (get_or sorted i d).0
    → (get_or sorted i d).0 ≤ end → (is_in_some merged at || is_in_range (start, end) at) ≡ is_in_some (take i sorted) at
    → (is_in_some merged at || is_in_range (start, max end (get_or sorted i d).1) at) ≡ is_in_some (take (i + 1) sorted) at
grow_more sorted merged start end i at d within low fits covers =
    rw (grown start end (get_or sorted i d) at low fits, is_in_some-more sorted i d at within, ← covers)
    (or_assoc (is_in_some merged at) (is_in_range (start, end) at) (is_in_range (get_or sorted i d) at))

pub push_more : (sorted merged pushed : List (ℕ × ℕ)) (start end i at : ℕ) (d : ℕ × ℕ) → i < length sorted
    → is_in_some pushed at ≡ (is_in_some merged at || is_in_range (start, end) at)
    → (is_in_some merged at || is_in_range (start, end) at) ≡ is_in_some (take i sorted) at
    → (is_in_some pushed at || is_in_range ((get_or sorted i d).0, (get_or sorted i d).1) at) ≡ is_in_some (take (i + 1) sorted) at
push_more sorted merged pushed start end i at d within made covers = rw (is_in_some-more sorted i d at within, ← covers, made) refl

-- the same ranges in another order
pub is_in_some-permutation : (ranges others : List (ℕ × ℕ)) (at : ℕ) → IsPermutation ranges others
    → is_in_some ranges at ≡ is_in_some others at
is_in_some-permutation ranges others at moved = list_any-IsPermutation (λ range. is_in_range range at) ranges others moved

below_count : (list : List (ℕ × ℕ)) (n at : ℕ) → AreRanges list n → is_in_some list at ≡ true → at < n
below_count [] n at all is = absurd (cc)
below_count (range ∷ list) n at all is =
    of (or_cases (is_in_range range at) (is_in_some list at) is)
    (λ there. below_count list n at (All-tail (λ r. (r.0 ≤ r.1) × (r.1 ≤ n)) range list all) there)
  where
    of : (is_in_range range at ≡ true) ⊎ (is_in_some list at ≡ true) → (is_in_some list at ≡ true → at < n) → at < n
    of (inl here) rest = let parts = range_parts range at here in let fits = all 0 range (omega arith) in omega (arith, parts.1, fits.1)
    of (inr there) rest = rest there

-- ranges that lie within a list
pub merged_ranges : (ranges merged : List (ℕ × ℕ)) (count : ℕ) → AreMerged ranges merged → AreRanges ranges count → AreRanges merged count
merged_ranges ranges merged count made good = λ k d within.
    let some : (get_or merged k d).0 < (get_or merged k d).1 = made.some k d within in
    let last : is_in_range (get_or merged k d) ((get_or merged k d).1 - 1) ≡ true =
    in_range-from (get_or merged k d) ((get_or merged k d).1 - 1) (omega arith) (omega arith) in
    let inside : is_in_some ranges ((get_or merged k d).1 - 1) ≡ true = sym (made.same ((get_or merged k d).1 - 1))
    ∙ is_in_some-at merged k d ((get_or merged k d).1 - 1) within last in
    let fits : (get_or merged k d).1 - 1 < count = below_count ranges count ((get_or merged k d).1 - 1) good inside in
    (omega arith, omega arith)

-- what is done at the positions of ranges is the same at those of others that have the same
pub changed_in-same : (test other : ℕ → Bool) (f : Entry → Entry) (n : ℕ) (entries : List Entry) → ((at : ℕ) → test at ≡ other at)
    → changed_in test f n entries ≡ changed_in other f n entries
changed_in-same test other f n [] same = refl
changed_in-same test other f n (entry ∷ entries) same = rw (same n, changed_in-same test other f (n + 1) entries same) refl

pub reprioritized-same : (version priority : ℕ) (ranges merged : List (ℕ × ℕ)) (entries : List Entry) → HaveSamePositions merged ranges
    → reprioritized version merged priority entries ≡ reprioritized version ranges priority entries
reprioritized-same version priority ranges merged entries same = of (version == MAX_VERSION)
  where
    of : (b : Bool) → cond b (map (with_stamp 1) (raised_in merged priority 1 entries)) (raised_in merged priority (version + 1) entries)
        ≡ cond b (map (with_stamp 1) (raised_in ranges priority 1 entries)) (raised_in ranges priority (version + 1) entries)
    of true = ap (map (with_stamp 1)) (changed_in-same (is_in_some merged) (is_in_some ranges) (raised priority 1) 0 entries same)
    of false = changed_in-same (is_in_some merged) (is_in_some ranges) (raised priority (version + 1)) 0 entries same
