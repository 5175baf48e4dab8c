-- The stamp rule where two blocks that follow each other have changed places.
use Rattle.std.proofs.Common.{◌≡◌, ◌≢◌, ℕ, ◌+◌, ◌-◌, ◌<◌, ◌≤◌, false, ◌==◌, ◌⊎◌, inl, inr, List, [], ◌∷◌, ◌++◌, length, get_or, map, take}
use Rattle.std.proofs.Common.{drop, slice_range, refl, sym, ap, ◌∙◌, subst, arith}
use Rattle.std.specs.List.Sorted.{IsPermutation}
use Rattle.std.proofs.lemmas.Bool.{cases_lt}
use Rattle.std.proofs.lemmas.List.{append_assoc, length-append, length-map, map-append, length-take-le, take_at, drop_at}
use Rattle.std.proofs.lemmas.List.{get_or_append_left, get_or-append_right, get_or-append-add}
use Rattle.std.proofs.lemmas.List.Edits.{length-between}
use Rattle.std.proofs.lemmas.List.Sorted.{IsPermutation-append_comm, IsPermutation-append_left, IsPermutation-append_right}
use Rattle.play_queue.specs.declared.entry.Entry.{Entry}
use Rattle.play_queue.specs.Limits.{MAX_VERSION}
use Rattle.play_queue.specs.Queue.{QueueState, HaveOwnIds, IsQueue, ids_of, is_unchanged, with_stamp, stamped, ruled}
use Rattle.play_queue.specs.Restamp.{restamped, next_version, exchanged}
use Rattle.play_queue.proofs.Blocks.{in_parts}
use Rattle.play_queue.proofs.OwnIds.{differ_at, own_ids-front, own_ids-back}
use Rattle.play_queue.proofs.Ruling.{Differ, chosen, is_same-other_id, is_unchanged-front, stamped-front, stamped-back, stamped-changed}
use Rattle.play_queue.proofs.Sound.{sound-restamped, fit-reordered, fit-queue}

-- a range in the middle has changed
is_unchanged-middle : (befores afters back : List Entry) → Differ befores afters → length befores ≡ length afters → 0 < length afters
    → is_unchanged [] (befores ++ back) (afters ++ back) ≡ false
is_unchanged-middle [] afters back differ long some = absurd (omega arith)
is_unchanged-middle (before ∷ befores) [] back differ long some = absurd (omega arith)
is_unchanged-middle (before ∷ befores) (after ∷ afters) back differ long some =
    rw (is_same-other_id [] before after (differ 0 (omega arith) (omega arith))) refl

pub ruled-middle : (q : QueueState) (front befores afters back : List Entry) → q.entries ≡ front ++ (befores ++ back)
    → Differ befores afters → length befores ≡ length afters → 0 < length afters
    → record q {
      entries = restamped q.version (length front) (length front + length afters) (front ++ (afters ++ back));
      version =
          next_version q.version;
    } ≡ ruled q (front ++ (afters ++ back)) []
ruled-middle q front befores afters back split differ long some =
    let news : List Entry = front ++ (afters ++ back) in
    let changed : is_unchanged [] q.entries news ≡ false =
    rw split (is_unchanged-front front (befores ++ back) (afters ++ back)
    ∙ is_unchanged-middle befores afters back differ long some) in
    let stamp : ℕ = q.version + 1 in
    let middle : slice_range news (length front) (length front + length afters) ≡ afters =
    ap (λ k. take k (drop (length front) news)) (omega arith)
    ∙ ap (take (length afters)) (drop_at front (afters ++ back) (length front) refl) ∙ take_at afters back (length afters) refl in
    let rest : drop (length front + length afters) news ≡ back =
    ap (λ l. drop (length front + length afters) l) (sym (append_assoc front afters back))
    ∙ drop_at (front ++ afters) back (length front + length afters) (length-append front afters) in
    let cut : take (length front) news
    ++ (map (with_stamp stamp) (slice_range news (length front) (length front + length afters))
    ++ drop (length front + length afters) news) ≡ stamped [] stamp q.entries news =
    rw (
      split,
      stamped-front stamp front (befores ++ back) (afters ++ back),
      stamped-back stamp befores afters back long,
      stamped-changed [] stamp befores afters differ,
      take_at front (afters ++ back) (length front) refl,
      middle,
      rest,
    ) refl in
    rw changed (chosen q news _ _ (q.version == MAX_VERSION) cut)

ids-append : (front back : List Entry) → ids_of (front ++ back) ≡ ids_of front ++ ids_of back
ids-append front back = map-append (λ entry. entry.id) front back

-- two blocks of ids that differ
pub differ_turned : (first second : List Entry) → HaveOwnIds (first ++ second) → 0 < length first → 0 < length second
    → Differ (first ++ second) (second ++ first)
differ_turned first second own some_first some_second k in_befores in_afters = by_cases (cases_lt k (length second))
  where
    ids : List ℕ
    ids = ids_of (first ++ second)

    by_cases : (k < length second) ⊎ (length second ≤ k) → get_or (ids_of (first ++ second)) k 0 ≢ get_or (ids_of (second ++ first)) k 0
    by_cases (inl front) =
        let long_first : length (ids_of first) ≡ length first = length-map first (λ entry. entry.id) in
        let long_second : length (ids_of second) ≡ length second = length-map second (λ entry. entry.id) in
        let long : length (ids_of (first ++ second)) ≡ length first + length second =
        length-map (first ++ second) (λ entry. entry.id) ∙ length-append first second in
        let read : get_or (ids_of (second ++ first)) k 0 ≡ get_or (ids_of (first ++ second)) (length first + k) 0 =
        rw (
          ids-append second first,
          ids-append first second,
          get_or_append_left (ids_of second) (ids_of first) 0 k (omega arith),
          ← long_first,
          get_or-append-add (ids_of first) (ids_of second) k 0,
        ) refl in
        rw read (differ_at (ids_of (first ++ second)) k (length first + k) own (omega arith) (omega arith) (omega arith))
    by_cases (inr back) =
        let long_first : length (ids_of first) ≡ length first = length-map first (λ entry. entry.id) in
        let long_second : length (ids_of second) ≡ length second = length-map second (λ entry. entry.id) in
        let sum : length (second ++ first) ≡ length second + length first = length-append second first in
        let long : length (ids_of (first ++ second)) ≡ length first + length second =
        length-map (first ++ second) (λ entry. entry.id) ∙ length-append first second in
        let read : get_or (ids_of (second ++ first)) k 0 ≡ get_or (ids_of (first ++ second)) (k - length second) 0 =
        rw (
          ids-append second first,
          ids-append first second,
          get_or-append_right (ids_of second) (ids_of first) (length second) k 0 long_second back,
          get_or_append_left (ids_of first) (ids_of second) 0 (k - length second) (omega arith),
        ) refl in
        rw read (differ_at (ids_of (first ++ second)) k (k - length second) own (omega arith) (omega arith) (omega arith))

pub ruled-exchanged : (q : QueueState) (low middle high : ℕ) → HaveOwnIds q.entries → low < middle → middle < high → high ≤ length q.entries
    → record q { entries = restamped q.version low high (exchanged q.entries low middle high); version = next_version q.version }
    ≡ ruled q (exchanged q.entries low middle high) []
ruled-exchanged q low middle high own below above within =
    let front = take low q.entries in
    let first = slice_range q.entries low middle in
    let second = slice_range q.entries middle high in
    let back = drop high q.entries in
    let split : q.entries ≡ front ++ ((first ++ second) ++ back) = in_parts q.entries low middle high (omega arith) (omega arith) in
    let long_front : length front ≡ low = length-take-le low q.entries (omega arith) in
    let long_first : length first ≡ middle - low = length-between q.entries low middle (omega arith) in
    let long_second : length second ≡ high - middle = length-between q.entries middle high (omega arith) in
    let own_both : HaveOwnIds (first ++ second) =
    own_ids-front (first ++ second) back (own_ids-back front ((first ++ second) ++ back) (subst HaveOwnIds split own)) in
    let sums : length (second ++ first) ≡ length second + length first = length-append second first in
    let other_sums : length (first ++ second) ≡ length first + length second = length-append first second in
    let made = ruled-middle q front (first ++ second) (second ++ first) back split
    (differ_turned first second own_both (omega arith) (omega arith)) (omega arith) (omega arith) in
    let at_high : length front + length (second ++ first) ≡ high = omega arith in
    rw (at_high, long_front) at made

pub sound-exchanged : (q : QueueState) → IsQueue q → (low middle high : ℕ) → low ≤ middle → middle ≤ high
    → IsQueue (record {
      entries = restamped q.version low high (exchanged q.entries low middle high);
      version = next_version q.version;
      next_id = q.next_id;
    })
sound-exchanged q sound low middle high below above =
    let front = take low q.entries in
    let first = slice_range q.entries low middle in
    let second = slice_range q.entries middle high in
    let back = drop high q.entries in
    let split : q.entries ≡ front ++ ((first ++ second) ++ back) = in_parts q.entries low middle high below above in
    let turned : IsPermutation (front ++ ((first ++ second) ++ back)) (front ++ ((second ++ first) ++ back)) =
    IsPermutation-append_right front _ _ (IsPermutation-append_left back _ _ (IsPermutation-append_comm first second)) in
    let fit = fit-reordered q.next_id q.version q.entries [] (exchanged q.entries low middle high) (fit-queue q sound)
    (rw (← split) at turned) in
    sound-restamped q.next_id q.version low high (exchanged q.entries low middle high) sound.version_low sound.version_high sound.next_low
    sound.next_high fit (omega arith)
