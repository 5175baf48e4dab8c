-- Entries that were sorted with words in place of their stamps, and have their stamps or a new one again, are those that a shuffle gives.
use Rattle.std.proofs.Common.{◌≡◌, ℕ, suc, ◌+◌, ◌-◌, ◌≤◌, Bool, true, false, cond, ◌==◌, List, [], ◌∷◌, ◌++◌, length, get_or}
use Rattle.std.proofs.Common.{map, take, drop, slice_range, length-drop, refl, sym, ap, ◌∙◌, arith}
use Rattle.std.specs.List.Sorted.{IsPermutation}
use Rattle.std.proofs.lemmas.Bool.{eq-eqb, eqb-true}
use Rattle.std.proofs.lemmas.List.{length-append, length-map, length-take-le, get_or-map, map-append, take_at, drop_at, append_assoc, take-map, drop-map}
use Rattle.std.proofs.lemmas.List.{same_lists}
use Rattle.std.proofs.lemmas.List.Edits.{split_between, length-between}
use Rattle.std.proofs.lemmas.List.Sorted.{length_permutation}
use Rattle.play_queue.specs.declared.entry.Entry.{Entry}
use Rattle.play_queue.specs.Limits.{MAX_VERSION}
use Rattle.play_queue.specs.Queue.{HaveOwnIds, ids_of, with_stamp}
use Rattle.play_queue.specs.Shuffle.{sorted_by_words, shuffled, stamped_moved, restamped_moved}
use Rattle.play_queue.specs.Shuffle.{stamps_of, with_stamps, sorted_anew, shuffled_anew, begun_again}
use Rattle.play_queue.proofs.Moved.{SameById, same_by_id, sorted-permutes, shuffled-block}
use Rattle.play_queue.proofs.Stamped.{own-stamps, take-with_stamps, drop-with_stamps}

-- stamps that stay at their positions make no difference where those of moved entries are new
moved-with_stamps : (befores afters : List Entry) (stamp : ℕ) → length befores ≡ length afters → SameById befores afters
    → stamped_moved (ids_of befores) stamp (with_stamps (stamps_of befores) afters) ≡ stamped_moved (ids_of befores) stamp afters
moved-with_stamps [] [] stamp long same = refl
moved-with_stamps [] (after ∷ afters) stamp long same = absurd (omega arith)
moved-with_stamps (before ∷ befores) [] stamp long same = absurd (omega arith)
moved-with_stamps (before ∷ befores) (after ∷ afters) stamp long same =
    let rest = moved-with_stamps befores afters stamp (omega arith) (λ k d within is. same (suc k) d (omega arith) is) in
    ap (λ entry. entry ∷ stamped_moved (ids_of befores) stamp (with_stamps (stamps_of befores) afters)) (of (after.id == before.id) refl)
    ∙ ap (λ l. cond (after.id == before.id) after (with_stamp stamp after) ∷ l) rest
  where
    of : (b : Bool) → (after.id == before.id) ≡ b
        → cond b (with_stamp before.stamp after) (with_stamp stamp after) ≡ cond b after (with_stamp stamp after)
    of true is = ap (λ (e : Entry). with_stamp e.stamp after) (same 0 after (omega arith) (eqb-true after.id before.id is))
    of false other_id = refl

-- what the stamps that the rule gives leave as it was
ids-stamped_moved : (ids : List ℕ) (stamp : ℕ) (entries : List Entry) → ids_of (stamped_moved ids stamp entries) ≡ ids_of entries
ids-stamped_moved [] stamp entries = refl
ids-stamped_moved (id ∷ ids) stamp [] = refl
ids-stamped_moved (id ∷ ids) stamp (entry ∷ entries) = of (ids-stamped_moved ids stamp entries) (entry.id == id)
  where
    of : ids_of (stamped_moved ids stamp entries) ≡ ids_of entries → (b : Bool)
        → ids_of (cond b entry (with_stamp stamp entry) ∷ stamped_moved ids stamp entries) ≡ entry.id ∷ ids_of entries
    of rest true = ap (λ l. entry.id ∷ l) rest
    of rest false = ap (λ l. entry.id ∷ l) rest

begun-stamped_moved : (ids : List ℕ) (stamp : ℕ) (entries : List Entry)
    → map (with_stamp 1) (stamped_moved ids stamp entries) ≡ map (with_stamp 1) entries
begun-stamped_moved [] stamp entries = refl
begun-stamped_moved (id ∷ ids) stamp [] = refl
begun-stamped_moved (id ∷ ids) stamp (entry ∷ entries) = of (begun-stamped_moved ids stamp entries) (entry.id == id)
  where
    of : map (with_stamp 1) (stamped_moved ids stamp entries) ≡ map (with_stamp 1) entries → (b : Bool)
        → map (with_stamp 1) (cond b entry (with_stamp stamp entry) ∷ stamped_moved ids stamp entries)
        ≡ with_stamp 1 entry ∷ map (with_stamp 1) entries
    of rest true = ap (λ l. with_stamp 1 entry ∷ l) rest
    of rest false = ap (λ l. with_stamp 1 entry ∷ l) rest

stamped-itself : (stamp : ℕ) (entries : List Entry) → stamped_moved (ids_of entries) stamp entries ≡ entries
stamped-itself stamp [] = refl
stamped-itself stamp (entry ∷ entries) =
    ap (λ b. cond b entry (with_stamp stamp entry) ∷ stamped_moved (ids_of entries) stamp entries) (eq-eqb entry.id entry.id refl)
    ∙ ap (λ l. entry ∷ l) (stamped-itself stamp entries)

sorted-same : (words : List ℕ) (entries : List Entry) → HaveOwnIds entries → length words ≡ length entries
    → ids_of (sorted_by_words words entries) ≡ ids_of entries → sorted_by_words words entries ≡ entries
sorted-same words entries own long same =
    let afters : List Entry = sorted_by_words words entries in
    let moved : IsPermutation entries afters = sorted-permutes words entries long in
    let as_long : length afters ≡ length entries = length_permutation entries afters moved in
    same_lists afters entries as_long
    (λ k d within.
    let before : get_or (ids_of entries) k 0 ≡ (get_or entries k d).id =
    get_or-map (λ entry. entry.id) entries k d 0 (omega (arith, as_long, within)) in
    let after : get_or (ids_of afters) k 0 ≡ (get_or afters k d).id = get_or-map (λ entry. entry.id) afters k d 0 within in
    sym (same_by_id entries afters own moved k d within (sym after ∙ ap (λ l. get_or l k 0) same ∙ before)))

-- the whole list
in_middle : (front middle back : List Entry) (start end : ℕ) → length front ≡ start → length middle ≡ end - start
    → slice_range (front ++ (middle ++ back)) start end ≡ middle
in_middle front middle back start end at_start at_end =
    ap (take (end - start)) (drop_at front (middle ++ back) start at_start) ∙ take_at middle back (end - start) at_end

behind_middle : (front middle back : List Entry) (start end : ℕ) → start ≤ end → length front ≡ start → length middle ≡ end - start
    → drop end (front ++ (middle ++ back)) ≡ back
behind_middle front middle back start end forward at_start at_end =
    ap (λ l. drop end l) (sym (append_assoc front middle back))
    ∙ drop_at (front ++ middle) back end (length-append front middle ∙ omega (arith, at_start, at_end, forward))

long_sorted : (words : List ℕ) (entries : List Entry) (start end : ℕ) → start ≤ end → end ≤ length entries → length words ≡ end - start
    → length (sorted_by_words words (slice_range entries start end)) ≡ end - start
long_sorted words entries start end forward within drawn =
    let befores : List Entry = slice_range entries start end in
    let long : length befores ≡ end - start = length-between entries start end within in
    length_permutation befores (sorted_by_words words befores) (sorted-permutes words befores (drawn ∙ sym long)) ∙ long

long_middle : (entries : List Entry) (start end : ℕ) (words : List ℕ) (stamp : ℕ) → start ≤ end → end ≤ length entries
    → length words ≡ end - start → length (sorted_anew words stamp (slice_range entries start end)) ≡ end - start
long_middle entries start end words stamp forward within drawn =
    let befores : List Entry = slice_range entries start end in
    let afters : List Entry = sorted_by_words words befores in
    let middle : List Entry = stamped_moved (ids_of befores) stamp afters in
    sym (length-map middle (λ entry. entry.id)) ∙ ap length (ids-stamped_moved (ids_of befores) stamp afters)
    ∙ length-map afters (λ entry. entry.id) ∙ long_sorted words entries start end forward within drawn

pub length-anew : (entries : List Entry) (start end : ℕ) (words : List ℕ) (stamp : ℕ) → start ≤ end → end ≤ length entries
    → length words ≡ end - start → length (shuffled_anew entries start end words stamp) ≡ length entries
length-anew entries start end words stamp forward within drawn =
    let middle : List Entry = sorted_anew words stamp (slice_range entries start end) in
    let back : List Entry = drop end entries in
    let front : length (take start entries) ≡ start = length-take-le start entries (omega arith) in
    omega (
      arith,
      length-append (take start entries) (middle ++ back),
      length-append middle back,
      front,
      long_middle entries start end words stamp forward within drawn,
      length-drop end entries,
    )

-- the ids that the code reads behind the sort
pub ids-anew : (entries : List Entry) (start end : ℕ) (words : List ℕ) (stamp : ℕ) → start ≤ end → end ≤ length entries
    → length words ≡ end - start → ids_of (slice_range (shuffled_anew entries start end words stamp) start end)
    ≡ ids_of (slice_range (shuffled entries start end words) start end)
ids-anew entries start end words stamp forward within drawn =
    let befores : List Entry = slice_range entries start end in
    let afters : List Entry = sorted_by_words words befores in
    let middle : List Entry = stamped_moved (ids_of befores) stamp afters in
    let ids : ids_of middle ≡ ids_of afters = ids-stamped_moved (ids_of befores) stamp afters in
    let long : length middle ≡ end - start = long_middle entries start end words stamp forward within drawn in
    ap ids_of (in_middle (take start entries) middle (drop end entries) start end (length-take-le start entries (omega arith)) long)
    ∙ ids ∙ ap ids_of (sym (shuffled-block entries start end words forward within drawn))

-- a shuffle that ends in the same order
pub anew-same : (entries : List Entry) (start end : ℕ) (words : List ℕ) (stamp : ℕ) → HaveOwnIds (slice_range entries start end)
    → start ≤ end → end ≤ length entries → length words ≡ end - start
    → ids_of (slice_range (shuffled entries start end words) start end) ≡ ids_of (slice_range entries start end)
    → shuffled_anew entries start end words stamp ≡ entries
anew-same entries start end words stamp own forward within drawn same =
    let befores : List Entry = slice_range entries start end in
    let long : length befores ≡ end - start = length-between entries start end within in
    let ids : ids_of (sorted_by_words words befores) ≡ ids_of befores =
    ap ids_of (sym (shuffled-block entries start end words forward within drawn)) ∙ same in
    let sorted : sorted_by_words words befores ≡ befores = sorted-same words befores own (drawn ∙ sym long) ids in
    ap (λ l. take start entries ++ (stamped_moved (ids_of befores) stamp l ++ drop end entries)) sorted
    ∙ ap (λ l. take start entries ++ (l ++ drop end entries)) (stamped-itself stamp befores)
    ∙ sym (split_between entries start end forward)

-- another order
pub anew-restamped : (version start end : ℕ) (words : List ℕ) (entries : List Entry) → start ≤ end → end ≤ length entries
    → length words ≡ end - start → begun_again version (shuffled_anew entries start end words (version + 1))
    ≡ restamped_moved version start end (ids_of (slice_range entries start end)) (shuffled entries start end words)
anew-restamped version start end words entries forward within drawn = of (version == MAX_VERSION)
  where
    stamp : ℕ
    stamp = version + 1

    front : List Entry
    front = take start entries

    befores : List Entry
    befores = slice_range entries start end

    afters : List Entry
    afters = sorted_by_words words befores

    back : List Entry
    back = drop end entries

    middle : List Entry
    middle = stamped_moved (ids_of befores) stamp afters

    news : List Entry
    news = front ++ (afters ++ back)

    at_start : length front ≡ start
    at_start = length-take-le start entries (omega arith)

    at_end : length afters ≡ end - start
    at_end = long_sorted words entries start end forward within drawn

    begun : map (with_stamp 1) (front ++ (middle ++ back)) ≡ map (with_stamp 1) (front ++ (afters ++ back))
    begun =
        map-append (with_stamp 1) front (middle ++ back)
        ∙ ap (λ l. map (with_stamp 1) front ++ l) (map-append (with_stamp 1) middle back
        ∙ ap (λ l. l ++ map (with_stamp 1) back) (begun-stamped_moved (ids_of befores) stamp afters)
        ∙ sym (map-append (with_stamp 1) afters back))
        ∙ sym (map-append (with_stamp 1) front (afters ++ back))

    cut : front ++ (middle ++ back)
        ≡ take start news ++ (stamped_moved (ids_of befores) stamp (slice_range news start end) ++ drop end news)
    cut =
        ap (λ l. l ++ (middle ++ back)) (sym (take_at front (afters ++ back) start at_start))
        ∙ ap (λ l. take start news ++ (stamped_moved (ids_of befores) stamp l ++ back))
        (sym (in_middle front afters back start end at_start at_end))
        ∙ ap (λ l. take start news ++ (stamped_moved (ids_of befores) stamp (slice_range news start end) ++ l))
        (sym (behind_middle front afters back start end forward at_start at_end))

    of : (b : Bool)
        → cond b (map (with_stamp 1) (front ++ (middle ++ back))) (front ++ (middle ++ back)) ≡ cond b (map (with_stamp 1) news)
        (take start news ++ (stamped_moved (ids_of befores) stamp (slice_range news start end) ++ drop end news))
    of true = begun
    of false = cut

-- what the code makes: a sort under the stamps of the positions, and then a new stamp for the entries that have moved
pub anew-made : (entries : List Entry) (start end : ℕ) (words : List ℕ) (stamp : ℕ) → HaveOwnIds (slice_range entries start end)
    → start ≤ end → end ≤ length entries → length words ≡ end - start → (sorted : List Entry)
    → sorted ≡ with_stamps (stamps_of entries) (shuffled entries start end words)
    → take start sorted ++ (stamped_moved (ids_of (slice_range entries start end)) stamp (slice_range sorted start end) ++ drop end sorted)
    ≡ shuffled_anew entries start end words stamp
anew-made entries start end words stamp own forward within drawn sorted is =
    let befores : List Entry = slice_range entries start end in
    let afters : List Entry = sorted_by_words words befores in
    let stamps : List ℕ = stamps_of entries in
    let news : List Entry = shuffled entries start end words in
    let long : length befores ≡ end - start = length-between entries start end within in
    let moved : IsPermutation befores afters = sorted-permutes words befores (drawn ∙ sym long) in
    let long_front : length (take start entries) ≡ start = length-take-le start entries (omega arith) in
    let long_afters : length afters ≡ end - start = long_sorted words entries start end forward within drawn in
    let front : take start sorted ≡ take start entries =
    ap (take start) is ∙ take-with_stamps start stamps news
    ∙ ap (with_stamps (take start stamps)) (take_at (take start entries) (afters ++ drop end entries) start long_front)
    ∙ sym (take-with_stamps start stamps entries) ∙ ap (take start) (own-stamps entries) in
    let back : drop end sorted ≡ drop end entries =
    ap (λ l. drop end l) is ∙ drop-with_stamps end stamps news
    ∙ ap (with_stamps (drop end stamps))
    (behind_middle (take start entries) afters (drop end entries) start end forward long_front long_afters)
    ∙ sym (drop-with_stamps end stamps entries) ∙ ap (λ l. drop end l) (own-stamps entries) in
    let own_block : take (end - start) (drop start stamps) ≡ stamps_of befores = simp (take-map, drop-map) in
    let middle : slice_range sorted start end ≡ with_stamps (stamps_of befores) afters =
    ap (λ l. take (end - start) (drop start l)) is
    ∙ ap (take (end - start)) (drop-with_stamps start stamps news)
    ∙ take-with_stamps (end - start) (drop start stamps) (drop start news)
    ∙ ap (λ l. with_stamps l (slice_range news start end)) own_block
    ∙ ap (with_stamps (stamps_of befores)) (in_middle (take start entries) afters (drop end entries) start end long_front long_afters) in
    rw (front, back, middle)
    (ap (λ l. take start entries ++ (l ++ drop end entries))
    (moved-with_stamps befores afters stamp (long ∙ sym long_afters) (same_by_id befores afters own moved)))
