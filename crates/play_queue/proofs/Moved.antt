-- The stamp rule where the entries of a block stand in another order.
use Rattle.std.proofs.Common.{Bool, ◌≡◌, ◌≢◌, ℕ, suc, ◌+◌, ◌-◌, ◌<◌, ◌≤◌, true, false, cond, eqb, ◌==◌, ◌⊎◌, inl, inr, List, [], ◌∷◌}
use Rattle.std.proofs.Common.{◌++◌, length, get_or, map, take, drop, slice_range, refl, sym, ap, ◌∙◌, arith}
use Rattle.std.specs.List.{zip, Contains}
use Rattle.std.specs.List.Sorted.{IsPermutation}
use Rattle.std.proofs.lemmas.Bool.{cases_eq, eq-eqb}
use Rattle.std.proofs.lemmas.Bool.Decides.{eqb_tells}
use Rattle.std.proofs.lemmas.List.{length-map, length-append, length-take-le, get_or-map, get_or_append_left, get_or_default, take_at}
use Rattle.std.proofs.lemmas.List.{drop_at, append_assoc, same_lists}
use Rattle.std.proofs.lemmas.List.Edits.{split_between, length-between}
use Rattle.std.proofs.lemmas.List.Elements.{Contains-get_or}
use Rattle.std.proofs.lemmas.List.Sorted.{IsPermutation-refl, IsPermutation-sym, IsPermutation-map, IsPermutation-append_left}
use Rattle.std.proofs.lemmas.List.Sorted.{IsPermutation-append_right, Contains-permutation, length_permutation}
use Rattle.std.proofs.lemmas.Slice.Zip.{seconds-zip}
use Rattle.play_queue.specs.declared.entry.Entry.{Entry}
use Rattle.play_queue.specs.Limits.{MAX_VERSION}
use Rattle.play_queue.specs.Queue.{QueueState, IsQueue, HaveOwnIds, ids_of, is_same, is_unchanged, with_stamp, stamped, ruled}
use Rattle.play_queue.specs.Restamp.{next_version}
use Rattle.play_queue.specs.Shuffle.{sorted_by_words, shuffled, stamped_if_moved, stamped_moved, restamped_moved}
use Rattle.play_queue.proofs.Kept.{ids-stamped}
use Rattle.play_queue.proofs.OwnIds.{differ_at}
use Rattle.play_queue.proofs.Ruling.{chosen, is_same-itself, is_same-other_id, is_unchanged-front, stamped-front, stamped-back}
use Rattle.play_queue.proofs.Shuffled.{own_ids-block}
use Rattle.play_queue.proofs.Sound.{AreFit, fit-reordered, fit-queue, ids-with_stamp}
use Rattle.play_queue.proofs.Where.{is_unchanged-at}
use Rattle.play_queue.proofs.WordOrder.{Drawn, in_word_order-permutes}

-- at each position where the same id stands, the same entry stands
abbrev pub SameById : List Entry → List Entry → Type 0
SameById befores afters = (k : ℕ) (d : Entry) → k < length afters → (get_or afters k d).id ≡ (get_or befores k d).id
    → get_or befores k d ≡ get_or afters k d

stamped-moved : (stamp : ℕ) (befores afters : List Entry) → length befores ≡ length afters → SameById befores afters
    → stamped [] stamp befores afters ≡ stamped_moved (ids_of befores) stamp afters
stamped-moved stamp [] [] long same = refl
stamped-moved stamp [] (after ∷ afters) long same = absurd (omega arith)
stamped-moved stamp (before ∷ befores) [] long same = absurd (omega arith)
stamped-moved stamp (before ∷ befores) (after ∷ afters) long same =
    let rest = stamped-moved stamp befores afters (omega arith) (λ k d within is. same (suc k) d (omega arith) is) in
    rw rest (ap (λ first. first ∷ stamped_moved (ids_of befores) stamp afters) (first (eqb_tells after.id before.id)))
  where
    first : ((eqb after.id before.id ≡ true) × (after.id ≡ before.id)) ⊎ ((eqb after.id before.id ≡ false) × (after.id ≢ before.id))
        → cond (is_same [] before after) before (with_stamp stamp after) ≡ stamped_if_moved before.id stamp after
    first (inl is) =
        let whole : before ≡ after = same 0 after (omega arith) is.1 in
        rw (whole, is_same-itself after, eq-eqb after.id after.id refl) refl
    first (inr other) = rw (is_same-other_id [] before after (λ is. other.1 (sym is)), other.0) refl

pub same_by_id : (befores afters : List Entry) → HaveOwnIds befores → IsPermutation befores afters → SameById befores afters
same_by_id befores afters own moved k d within is =
    of (Contains-permutation afters befores (get_or afters k d) (IsPermutation-sym befores afters moved)
    (Contains-get_or afters k d within))
  where
    of : Contains befores (get_or afters k d) → get_or befores k d ≡ get_or afters k d
    of found = by_place (cases_eq found.0 k)
      where
        by_place : (found.0 ≡ k) ⊎ (found.0 ≢ k) → get_or befores k d ≡ get_or afters k d
        by_place (inl here) =
            let in_befores : k < length befores = omega (arith, length_permutation befores afters moved) in
            get_or_default befores k d (get_or afters k d) in_befores ∙ rw here at (found.2)
        by_place (inr there) =
            let in_befores : k < length befores = omega (arith, length_permutation befores afters moved) in
            let ids : length (ids_of befores) ≡ length befores = length-map befores (λ entry. entry.id) in
            let id_there : get_or (ids_of befores) found.0 0 ≡ (get_or befores found.0 (get_or afters k d)).id =
            get_or-map (λ entry. entry.id) befores found.0 (get_or afters k d) 0 found.1 in
            let id_here : get_or (ids_of befores) k 0 ≡ (get_or befores k d).id = get_or-map (λ entry. entry.id) befores k d 0 in_befores in
            let same : get_or (ids_of befores) found.0 0 ≡ get_or (ids_of befores) k 0 =
            id_there ∙ ap (λ (e : Entry). e.id) found.2 ∙ is ∙ sym id_here in
            absurd (differ_at (ids_of befores) found.0 k own (omega (arith, found.1)) (omega arith) there same)

some_moved : (befores afters back : List Entry) → length befores ≡ length afters
    → (k : ℕ) × (k < length afters) × (get_or (ids_of afters) k 0 ≢ get_or (ids_of befores) k 0)
    → is_unchanged [] (befores ++ back) (afters ++ back) ≡ false
some_moved befores [] back long found = absurd (omega (arith, found.1))
some_moved befores (d ∷ afters) back long found =
    let news : List Entry = d ∷ afters in
    let k : ℕ = found.0 in
    let within : k < length news = found.1 in
    let before : get_or (befores ++ back) k d ≡ get_or befores k d = get_or_append_left befores back d k (omega arith) in
    let after : get_or (news ++ back) k d ≡ get_or news k d = get_or_append_left news back d k within in
    let id_before : get_or (ids_of befores) k 0 ≡ (get_or befores k d).id = get_or-map (λ entry. entry.id) befores k d 0 (omega arith) in
    let id_after : get_or (ids_of news) k 0 ≡ (get_or news k d).id = get_or-map (λ entry. entry.id) news k d 0 within in
    let apart : (get_or befores k d).id ≢ (get_or news k d).id = λ same. found.2 (id_after ∙ sym same ∙ sym id_before) in
    is_unchanged-at [] (befores ++ back) (news ++ back) k d (omega (arith, length-append befores back))
    (omega (arith, length-append news back)) (rw (before, after) (is_same-other_id [] (get_or befores k d) (get_or news k d) apart))

-- a block in another order
pub ruled-reordered : (q : QueueState) (front befores afters back : List Entry) → q.entries ≡ front ++ (befores ++ back)
    → HaveOwnIds befores → IsPermutation befores afters → (k : ℕ) × (k < length afters)
    × (get_or (ids_of afters) k 0 ≢ get_or (ids_of befores) k 0)
    → record q {
      entries = restamped_moved q.version (length front) (length front + length afters) (ids_of befores)
          (front ++ (afters ++ back));
      version = next_version q.version;
    } ≡ ruled q (front ++ (afters ++ back)) []
ruled-reordered q front befores afters back split own moved found =
    let news : List Entry = front ++ (afters ++ back) in
    let stamp : ℕ = q.version + 1 in
    let long : length befores ≡ length afters = sym (length_permutation befores afters moved) in
    let middle : slice_range news (length front) (length front + length afters) ≡ afters =
    ap (λ k. take k (drop (length front) news)) (omega arith)
    ∙ ap (take (length afters)) (drop_at front (afters ++ back) (length front) refl) ∙ take_at afters back (length afters) refl in
    let rest : drop (length front + length afters) news ≡ back =
    ap (λ l. drop (length front + length afters) l) (sym (append_assoc front afters back))
    ∙ drop_at (front ++ afters) back (length front + length afters) (length-append front afters) in
    let changed : is_unchanged [] q.entries news ≡ false =
    rw split (is_unchanged-front front (befores ++ back) (afters ++ back) ∙ some_moved befores afters back long found) in
    let cut : take (length front) news
    ++ (stamped_moved (ids_of befores) stamp (slice_range news (length front) (length front + length afters))
    ++ drop (length front + length afters) news) ≡ stamped [] stamp q.entries news =
    rw (
      split,
      stamped-front stamp front (befores ++ back) (afters ++ back),
      stamped-back stamp befores afters back long,
      stamped-moved stamp befores afters long (same_by_id befores afters own moved),
      take_at front (afters ++ back) (length front) refl,
      middle,
      rest,
    ) refl in
    rw changed (chosen q news _ _ (q.version == MAX_VERSION) cut)

-- a shuffle
pub sorted-permutes : (words : List ℕ) (entries : List Entry) → length words ≡ length entries
    → IsPermutation entries (sorted_by_words words entries)
sorted-permutes words entries long =
    let moved : IsPermutation (map (λ (drawn : Drawn). drawn.1) (zip words entries)) (sorted_by_words words entries) =
    IsPermutation-map (λ (drawn : Drawn). drawn.1) _ _ (in_word_order-permutes (zip words entries)) in
    rw (seconds-zip words entries (sym long)) at moved

block-long : (entries : List Entry) (start end : ℕ) → start ≤ end → end ≤ length entries
    → length (slice_range entries start end) ≡ end - start
block-long entries start end forward within = length-between entries start end within

-- what the code reads back
pub shuffled-block : (entries : List Entry) (start end : ℕ) (words : List ℕ) → start ≤ end → end ≤ length entries
    → length words ≡ end - start → slice_range (shuffled entries start end words) start end
    ≡ sorted_by_words words (slice_range entries start end)
shuffled-block entries start end words forward within drawn =
    let front : List Entry = take start entries in
    let befores : List Entry = slice_range entries start end in
    let back : List Entry = drop end entries in
    let afters : List Entry = sorted_by_words words befores in
    let long : length befores ≡ end - start = block-long entries start end forward within in
    let long_afters : length afters ≡ end - start = length_permutation befores afters (sorted-permutes words befores (omega arith))
    ∙ long in
    let long_front : length front ≡ start = length-take-le start entries (omega arith) in
    ap (take (end - start)) (drop_at front (afters ++ back) start long_front) ∙ take_at afters back (end - start) long_afters

pub ruled-shuffled : (q : QueueState) (start end : ℕ) (words : List ℕ) → HaveOwnIds q.entries → start ≤ end → end ≤ length q.entries
    → length words ≡ end - start → (k : ℕ) × (k < end - start)
    × (get_or (ids_of (slice_range (shuffled q.entries start end words) start end)) k 0
    ≢ get_or (ids_of (slice_range q.entries start end)) k 0)
    → record q {
      entries = restamped_moved q.version start end (ids_of (slice_range q.entries start end))
          (shuffled q.entries start end words);
      version = next_version q.version;
    } ≡ ruled q (shuffled q.entries start end words) []
ruled-shuffled q start end words own forward within drawn found =
    let front : List Entry = take start q.entries in
    let befores : List Entry = slice_range q.entries start end in
    let back : List Entry = drop end q.entries in
    let afters : List Entry = sorted_by_words words befores in
    let split : q.entries ≡ front ++ (befores ++ back) = split_between q.entries start end forward in
    let long : length befores ≡ end - start = block-long q.entries start end forward within in
    let moved : IsPermutation befores afters = sorted-permutes words befores (omega arith) in
    let long_afters : length afters ≡ end - start = length_permutation befores afters moved ∙ long in
    let long_front : length front ≡ start = length-take-le start q.entries (omega arith) in
    let middle : slice_range (shuffled q.entries start end words) start end ≡ afters =
    shuffled-block q.entries start end words forward within drawn in
    let at_end : length front + length afters ≡ end = omega arith in
    let made = ruled-reordered q front befores afters back split (own_ids-block q.entries start end forward own) moved (
      found.0,
      omega (arith, found.1),
      rw middle at (found.2),
    ) in
    rw (at_end, long_front) at made

-- a shuffle that ends in the same order
pub shuffled-same : (q : QueueState) (start end : ℕ) (words : List ℕ) → HaveOwnIds q.entries → start ≤ end → end ≤ length q.entries
    → length words ≡ end - start → ids_of (slice_range (shuffled q.entries start end words) start end)
    ≡ ids_of (slice_range q.entries start end) → shuffled q.entries start end words ≡ q.entries
shuffled-same q start end words own forward within drawn same =
    let befores : List Entry = slice_range q.entries start end in
    let afters : List Entry = sorted_by_words words befores in
    let long : length befores ≡ end - start = block-long q.entries start end forward within in
    let moved : IsPermutation befores afters = sorted-permutes words befores (omega arith) in
    let ids : ids_of afters ≡ ids_of befores = rw (shuffled-block q.entries start end words forward within drawn) at same in
    let by_id : SameById befores afters = same_by_id befores afters (own_ids-block q.entries start end forward own) moved in
    let block : befores ≡ afters =
    same_lists befores afters (sym (length_permutation befores afters moved))
    (λ k d in_befores.
    let in_afters : k < length afters = omega (arith, length_permutation befores afters moved) in
    let before : get_or (ids_of befores) k 0 ≡ (get_or befores k d).id = get_or-map (λ entry. entry.id) befores k d 0 in_befores in
    let after : get_or (ids_of afters) k 0 ≡ (get_or afters k d).id = get_or-map (λ entry. entry.id) afters k d 0 in_afters in
    by_id k d in_afters (sym after ∙ ap (λ l. get_or l k 0) ids ∙ before)) in
    ap (λ l. take start q.entries ++ (l ++ drop end q.entries)) (sym block) ∙ sym (split_between q.entries start end forward)

pub shuffled-permutes : (entries : List Entry) (start end : ℕ) (words : List ℕ) → start ≤ end → end ≤ length entries
    → length words ≡ end - start → IsPermutation entries (shuffled entries start end words)
shuffled-permutes entries start end words forward within drawn =
    let befores : List Entry = slice_range entries start end in
    let long : length befores ≡ end - start = block-long entries start end forward within in
    let moved = IsPermutation-append_right (take start entries) _ _
    (IsPermutation-append_left (drop end entries) _ _ (sorted-permutes words befores (omega arith))) in
    rw (← split_between entries start end forward) at moved

pub fit-shuffled : (q : QueueState) (start end : ℕ) (words : List ℕ) → IsQueue q → start ≤ end → end ≤ length q.entries
    → length words ≡ end - start → AreFit q.next_id q.version (shuffled q.entries start end words)
fit-shuffled q start end words sound forward within drawn =
    fit-reordered q.next_id q.version q.entries [] (shuffled q.entries start end words) (fit-queue q sound)
    (shuffled-permutes q.entries start end words forward within drawn)

-- the stamp rule keeps the ids
pub ids-ruled : (q : QueueState) (afters : List Entry) → IsPermutation q.entries afters
    → IsPermutation (ids_of q.entries) (ids_of (ruled q afters []).entries)
ids-ruled q afters moved = of (is_unchanged [] q.entries afters) (q.version == MAX_VERSION)
  where
    ids : IsPermutation (ids_of q.entries) (ids_of afters)
    ids = IsPermutation-map (λ entry. entry.id) q.entries afters moved

    of : (same last : Bool)
        → IsPermutation (ids_of q.entries)
        (ids_of (cond same q (cond last (record q { entries = map (with_stamp 1) afters; version = 1 })
        (record q { entries = stamped [] (q.version + 1) q.entries afters; version = q.version + 1 }))).entries)
    of true last = IsPermutation-refl (ids_of q.entries)
    of false true = rw (ids-with_stamp 1 afters) ids
    of false false = rw (ids-stamped [] (q.version + 1) q.entries afters) ids
