-- The stamp rule where some positions of a list of the same length have changed.
use Rattle.std.proofs.Common.{◌≡◌, ◌≢◌, ℕ, zero, suc, ◌+◌, ◌<◌, ◌≤◌, Bool, true, false, cond, ◌==◌, ◌||◌, ◌&&◌, ◌⊎◌, inl, inr, List, []}
use Rattle.std.proofs.Common.{◌∷◌, length, get_or, set, map, refl, sym, ap, ◌∙◌, subst, arith, zero-add}
use Rattle.std.specs.List.{All, enumerate_from, swap}
use Rattle.std.proofs.lemmas.Bool.{cases_eq, eq-eqb, eqb-false}
use Rattle.std.proofs.lemmas.Bool.Decides.{eqb_tells}
use Rattle.std.proofs.lemmas.List.{length-map, length-set, get_or-map, get_or-set_same, get_or-set_other, set-get_or, same_lists}
use Rattle.std.proofs.lemmas.List.{get_or_default}
use Rattle.std.proofs.lemmas.List.Edits.{Swapped, swapped_from_swap, length-swap}
use Rattle.std.proofs.lemmas.List.Elements.{All-cons, All-head, All-tail}
use Rattle.std.proofs.lemmas.List.Sorted.{IsPermutation-swap}
use Rattle.std.proofs.lemmas.List.FromFn.{length-enumerate_from, get_or-enumerate_from}
use Rattle.play_queue.specs.declared.entry.Entry.{Entry}
use Rattle.play_queue.specs.Limits.{MAX_VERSION}
use Rattle.play_queue.specs.Entries.{Uris}
use Rattle.play_queue.specs.Queue.{QueueState, IsEntry, IsQueue, HaveOwnIds, ids_of, is_same, is_unchanged, with_stamp, stamped, ruled}
use Rattle.play_queue.specs.Restamp.{next_version, stamped_where, restamped_pair}
use Rattle.play_queue.proofs.OwnIds.{differ_at}
use Rattle.play_queue.proofs.Ruling.{chosen, is_same-itself, is_same-other_id}
use Rattle.play_queue.proofs.Sound.{AreFit, fit-reordered, fit-queue, with_new_stamp, grown, own_ids-same, ids-with_stamp}

-- a position is marked as changed, or all is as before
abbrev pub Marked : Uris → Bool → Entry → Entry → Type 0
Marked changed true before after = is_same changed before after ≡ false
Marked changed false before after = (is_same changed before after ≡ true) × (before ≡ after)

at_mark : (changed : Uris) (stamp : ℕ) (mark : Bool) (before after : Entry) → Marked changed mark before after
    → cond (is_same changed before after) before (with_stamp stamp after) ≡ cond mark (with_stamp stamp after) after
at_mark changed stamp true before after marked = rw marked refl
at_mark changed stamp false before after marked = rw (marked.0) (marked.1)

pub stamped-where : (changed : Uris) (stamp : ℕ) (test : ℕ → Bool) (n : ℕ) (befores afters : List Entry) → length befores ≡ length afters
    → ((k : ℕ) (d : Entry) → k < length afters → Marked changed (test (n + k)) (get_or befores k d) (get_or afters k d))
    → stamped changed stamp befores afters ≡ map (λ at. cond (test at.0) (with_stamp stamp at.1) at.1) (enumerate_from n afters)
stamped-where changed stamp test n befores [] long marks = refl
stamped-where changed stamp test n [] (after ∷ afters) long marks = absurd (omega arith)
stamped-where changed stamp test n (before ∷ befores) (after ∷ afters) long marks =
    let here : Marked changed (test n) before after =
    subst (λ k. Marked changed (test k) before after) (omega arith) (marks 0 after (omega arith)) in
    let rest = stamped-where changed stamp test (n + 1) befores afters (omega arith)
    (λ k d within. subst (λ j. Marked changed (test j) (get_or befores k d) (get_or afters k d)) (omega arith)
    (marks (suc k) d (omega arith))) in
    rw (at_mark changed stamp (test n) before after here, rest) refl

pub is_unchanged-at : (changed : Uris) (befores afters : List Entry) (k : ℕ) (d : Entry) → k < length befores → k < length afters
    → is_same changed (get_or befores k d) (get_or afters k d) ≡ false → is_unchanged changed befores afters ≡ false
is_unchanged-at changed [] afters k d in_befores in_afters other = absurd (omega arith)
is_unchanged-at changed (before ∷ befores) [] k d in_befores in_afters other = refl
is_unchanged-at changed (before ∷ befores) (after ∷ afters) zero d in_befores in_afters other = rw other refl
is_unchanged-at changed (before ∷ befores) (after ∷ afters) (suc k) d in_befores in_afters other =
    rw (is_unchanged-at changed befores afters k d (omega arith) (omega arith) other) (and_false (is_same changed before after))
  where
    and_false : (b : Bool) → (b && false) ≡ false
    and_false true = refl
    and_false false = refl

pub ruled-where : (q : QueueState) (afters : List Entry) (changed : Uris) (test : ℕ → Bool) (k : ℕ) (d : Entry)
    → length q.entries ≡ length afters → k < length afters → test k ≡ true
    → ((k : ℕ) (d : Entry) → k < length afters → Marked changed (test k) (get_or q.entries k d) (get_or afters k d))
    → record q {
      entries = cond (q.version == MAX_VERSION) (map (with_stamp 1) afters) (stamped_where test (q.version + 1) afters);
      version = next_version q.version;
    } ≡ ruled q afters changed
ruled-where q afters changed test k d long within mark marks =
    let here : Marked changed true (get_or q.entries k d) (get_or afters k d) =
    subst (λ b. Marked changed b (get_or q.entries k d) (get_or afters k d)) mark (marks k d within) in
    let other : is_unchanged changed q.entries afters ≡ false = is_unchanged-at changed q.entries afters k d (omega arith) within here in
    let cut : stamped_where test (q.version + 1) afters ≡ stamped changed (q.version + 1) q.entries afters =
    sym (stamped-where changed (q.version + 1) test 0 q.entries afters long
    (λ j e in_afters. subst (λ i. Marked changed (test i) (get_or q.entries j e) (get_or afters j e)) (sym (zero-add j))
    (marks j e in_afters))) in
    rw other (chosen q afters _ _ (q.version == MAX_VERSION) cut)

-- what stands at a position afterwards
pub get_or-stamped_where : (test : ℕ → Bool) (stamp : ℕ) (entries : List Entry) (k : ℕ) (d : Entry) → k < length entries
    → get_or (stamped_where test stamp entries) k d ≡ cond (test k) (with_stamp stamp (get_or entries k d)) (get_or entries k d)
get_or-stamped_where test stamp entries k d within =
    let long : length (enumerate_from 0 entries) ≡ length entries = length-enumerate_from 0 entries in
    let item : get_or (enumerate_from 0 entries) k (0, d) ≡ (k, get_or entries k d) =
    get_or-enumerate_from 0 entries k (0, d) within ∙ ap (λ j. (j, get_or entries k d)) (zero-add k) in
    get_or-map (λ at. cond (test at.0) (with_stamp stamp at.1) at.1) (enumerate_from 0 entries) k (0, d) d (omega arith) ∙ rw item refl

pub length-stamped_where : (test : ℕ → Bool) (stamp : ℕ) (entries : List Entry) → length (stamped_where test stamp entries) ≡ length entries
length-stamped_where test stamp entries = length-map (enumerate_from 0 entries) (λ at. cond (test at.0) (with_stamp stamp at.1) at.1)
    ∙ length-enumerate_from 0 entries

pub not_eq : (a b : ℕ) → a ≢ b → (a == b) ≡ false
not_eq a b apart = of (eqb_tells a b)
  where
    of : (((a == b) ≡ true) × (a ≡ b)) ⊎ (((a == b) ≡ false) × (a ≢ b)) → (a == b) ≡ false
    of (inl same) = absurd (apart same.1)
    of (inr other) = other.0

-- two writes are the stamps of two positions
pub pair_stamped : (entries : List Entry) (i j stamp : ℕ) (x y : Entry) → i < length entries → j < length entries → x ≡ get_or entries i x
    → y ≡ get_or (set entries i (with_stamp stamp x)) j y
    → set (set entries i (with_stamp stamp x)) j (with_stamp stamp y) ≡ stamped_where (λ at. at == i || at == j) stamp entries
pair_stamped entries i j stamp x y in_i in_j is_x is_y =
    same_lists _ _ (length-set (set entries i (with_stamp stamp x)) j (with_stamp stamp y) ∙ length-set entries i (with_stamp stamp x)
    ∙ sym (length-stamped_where (λ at. at == i || at == j) stamp entries))
    (λ k d within.
    let within' : k < length entries =
    omega (
      arith,
      length-set (set entries i (with_stamp stamp x)) j (with_stamp stamp y),
      length-set entries i (with_stamp stamp x),
    ) in
    by_cases k d within' (cases_eq k j) (cases_eq k i)
    ∙ sym (get_or-stamped_where (λ at. at == i || at == j) stamp entries k d within'))
  where
    first : (d : Entry) → get_or (set entries i (with_stamp stamp x)) i d ≡ with_stamp stamp (get_or entries i d)
    first d = get_or-set_same entries i (with_stamp stamp x) d in_i ∙ ap (with_stamp stamp) (is_x ∙ get_or_default entries i x d in_i)

    second : (d : Entry) → (i ≡ j) ⊎ (i ≢ j) → with_stamp stamp y ≡ with_stamp stamp (get_or entries j d)
    second d (inl same) = ap (with_stamp stamp) is_y
        ∙ ap (λ k. with_stamp stamp (get_or (set entries i (with_stamp stamp x)) k y)) (sym same) ∙ ap (with_stamp stamp) (first y)
        ∙ ap (λ e. with_stamp stamp e) (get_or_default entries i y d in_i) ∙ ap (λ k. with_stamp stamp (get_or entries k d)) same
    second d (inr apart) = ap (with_stamp stamp) (is_y ∙ get_or-set_other entries i j (with_stamp stamp x) y (λ e. apart (sym e))
        ∙ get_or_default entries j y d in_j)

    by_cases : (k : ℕ) (d : Entry) → k < length entries → (k ≡ j) ⊎ (k ≢ j) → (k ≡ i) ⊎ (k ≢ i)
        → get_or (set (set entries i (with_stamp stamp x)) j (with_stamp stamp y)) k d
        ≡ cond (k == i || k == j) (with_stamp stamp (get_or entries k d)) (get_or entries k d)
    by_cases k d within (inl at_j) at_i =
        rw (
          at_j,
          get_or-set_same (set entries i (with_stamp stamp x)) j (with_stamp stamp y) d
              (omega (arith, length-set entries i (with_stamp stamp x))),
          second d (cases_eq i j),
          eq-eqb j j refl,
          or_true (j == i),
        ) refl
      where
        or_true : (b : Bool) → (b || true) ≡ true
        or_true true = refl
        or_true false = refl
    by_cases k d within (inr off_j) (inl at_i) =
        rw (get_or-set_other (set entries i (with_stamp stamp x)) j k (with_stamp stamp y) d off_j, eq-eqb k i at_i)
        (ap (λ m. get_or (set entries i (with_stamp stamp x)) m d) at_i ∙ first d
        ∙ ap (λ m. with_stamp stamp (get_or entries m d)) (sym at_i))
    by_cases k d within (inr off_j) (inr off_i) =
        rw (
          get_or-set_other (set entries i (with_stamp stamp x)) j k (with_stamp stamp y) d off_j,
          get_or-set_other entries i k (with_stamp stamp x) d off_i,
          not_eq k i off_i,
          not_eq k j off_j,
        ) refl

pub pair_written : (entries : List Entry) (i j stamp : ℕ) (d e : Entry) → i < length entries → j < length entries
    → set (set entries i (with_stamp stamp (get_or entries i d))) j
    (with_stamp stamp (get_or (set entries i (with_stamp stamp (get_or entries i d))) j e))
    ≡ stamped_where (λ at. at == i || at == j) stamp entries
pair_written entries i j stamp d e in_i in_j =
    pair_stamped entries i j stamp (get_or entries i d) (get_or (set entries i (with_stamp stamp (get_or entries i d))) j e) in_i in_j
    (get_or_default entries i d (get_or entries i d) in_i)
    (get_or_default (set entries i (with_stamp stamp (get_or entries i d))) j e
    (get_or (set entries i (with_stamp stamp (get_or entries i d))) j e)
    (omega (arith, length-set entries i (with_stamp stamp (get_or entries i d)))))

-- two entries that have changed places
pub swap-marks : (entries : List Entry) (i j : ℕ) → HaveOwnIds entries → i < length entries → j < length entries → i ≢ j
    → (k : ℕ) (d : Entry) → k < length (swap entries i j)
    → Marked [] (k == i || k == j) (get_or entries k d) (get_or (swap entries i j) k d)
swap-marks entries i j own in_i in_j apart k d within = by_cases (cases_eq k i) (cases_eq k j)
  where
    moved : Swapped (λ m. get_or entries m d) (λ m. get_or (swap entries i j) m d) i j
    moved = swapped_from_swap entries (swap entries i j) i j d in_i in_j refl

    ids : (m : ℕ) → m < length entries → get_or (ids_of entries) m 0 ≡ (get_or entries m d).id
    ids m in_m = get_or-map (λ entry. entry.id) entries m d 0 in_m

    long : length (ids_of entries) ≡ length entries
    long = length-map entries (λ entry. entry.id)

    other : (m n : ℕ) → m < length entries → n < length entries → m ≢ n → is_same [] (get_or entries m d) (get_or entries n d) ≡ false
    other m n in_m in_n off = is_same-other_id [] (get_or entries m d) (get_or entries n d)
        (rw (← ids m in_m, ← ids n in_n) (differ_at (ids_of entries) m n own (omega (arith, long)) (omega (arith, long)) off))

    by_cases : (k ≡ i) ⊎ (k ≢ i) → (k ≡ j) ⊎ (k ≢ j) → Marked [] (k == i || k == j) (get_or entries k d) (get_or (swap entries i j) k d)
    by_cases (inl at_i) at_j = rw (eq-eqb k i at_i) (rw (at_i, moved.0) (other i j in_i in_j apart))
    by_cases (inr off_i) (inl at_j) = rw (not_eq k i off_i, eq-eqb k j at_j)
        (rw (at_j, moved.1) (other j i in_j in_i (λ same. apart (sym same))))
    by_cases (inr off_i) (inr off_j) =
        rw (not_eq k i off_i, not_eq k j off_j, moved.2 k off_i off_j) (is_same-itself (get_or entries k d), refl)

pub ruled-swapped : (q : QueueState) (i j : ℕ) → HaveOwnIds q.entries → i < length q.entries → j < length q.entries → i ≢ j
    → record q { entries = restamped_pair q.version i j (swap q.entries i j); version = next_version q.version }
    ≡ ruled q (swap q.entries i j) []
ruled-swapped q i j own in_i in_j apart = by_first q.entries refl
  where
    by_first : (entries : List Entry) → q.entries ≡ entries
        → record q { entries = restamped_pair q.version i j (swap q.entries i j); version = next_version q.version }
        ≡ ruled q (swap q.entries i j) []
    by_first [] none = absurd (omega (arith, ap length none))
    by_first (d ∷ entries) some =
        ruled-where q (swap q.entries i j) [] (λ at. at == i || at == j) i d (sym (length-swap q.entries i j))
        (omega (arith, length-swap q.entries i j)) (rw (eq-eqb i i refl) refl) (swap-marks q.entries i j own in_i in_j apart)

-- stamps keep what a queue keeps
pub ids-stamped_where : (test : ℕ → Bool) (stamp n : ℕ) (entries : List Entry)
    → ids_of (map (λ at. cond (test at.0) (with_stamp stamp at.1) at.1) (enumerate_from n entries)) ≡ ids_of entries
ids-stamped_where test stamp n [] = refl
ids-stamped_where test stamp n (entry ∷ entries) =
    rw (ids-stamped_where test stamp (n + 1) entries) (ap (λ id. id ∷ ids_of entries) (of (test n)))
  where
    of : (b : Bool) → (cond b (with_stamp stamp entry) entry).id ≡ entry.id
    of true = refl
    of false = refl

pub all-stamped_where : (test : ℕ → Bool) (next stamp n : ℕ) (entries : List Entry) → 1 ≤ stamp → All (IsEntry next stamp) entries
    → All (IsEntry next stamp) (map (λ at. cond (test at.0) (with_stamp stamp at.1) at.1) (enumerate_from n entries))
all-stamped_where test next stamp n [] low all = λ k d within. absurd (omega arith)
all-stamped_where test next stamp n (entry ∷ entries) low all =
    All-cons (IsEntry next stamp) _ _ (of (test n) (All-head (IsEntry next stamp) entry entries all))
    (all-stamped_where test next stamp (n + 1) entries low (All-tail (IsEntry next stamp) entry entries all))
  where
    of : (b : Bool) → IsEntry next stamp entry → IsEntry next stamp (cond b (with_stamp stamp entry) entry)
    of true fit = record { id_low = fit.id_low; id_used = fit.id_used; stamp_low = low; stamp_high = omega arith }
    of false fit = fit

pub sound-where : (q : QueueState) → IsQueue q → (afters : List Entry) (test : ℕ → Bool) → AreFit q.next_id q.version afters
    → IsQueue (record {
      entries = cond (q.version == MAX_VERSION) (map (with_stamp 1) afters) (stamped_where test (q.version + 1) afters);
      version = next_version q.version;
      next_id = q.next_id;
    })
sound-where q sound afters test fit = by_cases (q.version == MAX_VERSION) refl
  where
    by_cases : (b : Bool) → (q.version == MAX_VERSION) ≡ b
        → IsQueue (record {
          entries = cond b (map (with_stamp 1) afters) (stamped_where test (q.version + 1) afters);
          version =
              cond b 1 (q.version + 1);
          next_id = q.next_id;
        })
    by_cases true is = record {
      few = omega (arith, fit.few, length-map afters (with_stamp 1));
      version_low = omega arith;
      version_high = omega arith;
      next_low = sound.next_low;
      next_high = sound.next_high;
      entry = with_new_stamp q.next_id q.version 1 (omega arith) afters fit.entry;
      own_ids = own_ids-same (map (with_stamp 1) afters) afters (ids-with_stamp 1 afters) fit.own_ids;
    }
    by_cases false is =
        let apart = eqb-false q.version MAX_VERSION is in
        record {
          few = omega (arith, fit.few, length-stamped_where test (q.version + 1) afters);
          version_low = omega arith;
          version_high = omega (arith, sound.version_high);
          next_low = sound.next_low;
          next_high = sound.next_high;
          entry = all-stamped_where test q.next_id (q.version + 1) 0 afters (omega arith)
              (grown q.next_id q.version (q.version + 1) (omega arith) afters fit.entry);
          own_ids = own_ids-same (stamped_where test (q.version + 1) afters) afters (ids-stamped_where test (q.version + 1) 0 afters)
              fit.own_ids;
        }

pub sound-swapped : (q : QueueState) → IsQueue q → (i j : ℕ) → i < length q.entries → j < length q.entries
    → IsQueue (record {
      entries = restamped_pair q.version i j (swap q.entries i j);
      version = next_version q.version;
      next_id =
          q.next_id;
    })
sound-swapped q sound i j in_i in_j =
    sound-where q sound (swap q.entries i j) (λ at. at == i || at == j)
    (fit-reordered q.next_id q.version q.entries [] (swap q.entries i j) (fit-queue q sound)
    (IsPermutation-swap q.entries (swap q.entries i j) i j in_i in_j refl))

-- an entry that changes places with itself
pub swap-itself : (entries : List Entry) (i : ℕ) → swap entries i i ≡ entries
swap-itself [] i = refl
swap-itself (d ∷ entries) i = ap (λ l. set l i (get_or (d ∷ entries) i d)) (set-get_or (d ∷ entries) i d) ∙ set-get_or (d ∷ entries) i d
