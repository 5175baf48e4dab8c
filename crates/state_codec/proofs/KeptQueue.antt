-- The queue of a saved state stays one through each edit: it is a queue, and each of its entries is of a song that has a row.
use Rattle.std.proofs.Common.{◌≡◌, ℕ, ◌+◌, ◌-◌, ◌<◌, ◌≤◌, Bool, true, false, cond, ◌==◌, List, [], ◌∷◌, ◌++◌, length, map, take, drop}
use Rattle.std.proofs.Common.{slice_range, swap, IsTrue, refl, sym, ap, ◌∙◌, subst, arith}
use Rattle.std.specs.List.{All, enumerate_from}
use Rattle.std.specs.List.Sorted.{IsPermutation}
use Rattle.std.proofs.lemmas.List.{append_assoc, take-append-drop}
use Rattle.std.proofs.lemmas.List.Edits.{split_between}
use Rattle.std.proofs.lemmas.List.Elements.{All-cons, All-head, All-tail, All-append, All-take, All-drop, All-map, All-weaker}
use Rattle.std.proofs.lemmas.List.Sorted.{All-permutation, IsPermutation-swap, IsPermutation-append_left, IsPermutation-append_comm}
use Rattle.std.proofs.lemmas.List.Sorted.{IsPermutation-trans}
use Rattle.play_queue.specs.declared.entry.Entry.{Entry}
use Rattle.play_queue.specs.Limits.{MAX_ENTRIES, MAX_ID, MAX_VERSION}
use Rattle.play_queue.specs.Entries.{Uris, is_in_some, deleted, moved, added, new_entries, prioritized, with_priority}
use Rattle.play_queue.specs.Queue.{QueueState, IsEntry, IsQueue, is_same, is_unchanged, with_stamp, stamped, ruled}
use Rattle.play_queue.specs.Shuffle.{shuffled}
use Rattle.play_queue.proofs.Added.{fit-added}
use Rattle.play_queue.proofs.Kept.{sound-ruled}
use Rattle.play_queue.proofs.Moved.{fit-shuffled, shuffled-permutes}
use Rattle.play_queue.proofs.Prioritized.{fit-prioritized}
use Rattle.play_queue.proofs.Sound.{AreFit, fit-queue, fit-reordered, fit-deleted}
use Rattle.song_db.specs.Change.{has_uri}
use Rattle.song_db.specs.Row.{Row}
use Rattle.state_codec.specs.SavedState.{IsSavedEntry, IsSavedQueue}

pub entry_stamped : (songs : List Row) (stamp : ℕ) (entry : Entry) → IsSavedEntry songs entry → IsSavedEntry songs (with_stamp stamp entry)
entry_stamped songs stamp entry saved = record { has_row = saved.has_row; priority = saved.priority }

entry_chosen : (songs : List Row) (stamp : ℕ) (b : Bool) (before after : Entry) → IsSavedEntry songs before → IsSavedEntry songs after
    → IsSavedEntry songs (cond b before (with_stamp stamp after))
entry_chosen songs stamp true before after old new = old
entry_chosen songs stamp false before after old new = entry_stamped songs stamp after new

all_stamped : (songs : List Row) (changed : Uris) (stamp : ℕ) (befores afters : List Entry) → All (IsSavedEntry songs) befores
    → All (IsSavedEntry songs) afters → All (IsSavedEntry songs) (stamped changed stamp befores afters)
all_stamped songs changed stamp befores [] old new = λ k d within. absurd (omega arith)
all_stamped songs changed stamp [] (after ∷ afters) old new =
    All-cons (IsSavedEntry songs) _ _ (entry_stamped songs stamp after (All-head (IsSavedEntry songs) after afters new))
    (all_stamped songs changed stamp [] afters old (All-tail (IsSavedEntry songs) after afters new))
all_stamped songs changed stamp (before ∷ befores) (after ∷ afters) old new =
    All-cons (IsSavedEntry songs) _ _ (entry_chosen songs stamp (is_same changed before after) before after
    (All-head (IsSavedEntry songs) before befores old) (All-head (IsSavedEntry songs) after afters new))
    (all_stamped songs changed stamp befores afters (All-tail (IsSavedEntry songs) before befores old)
    (All-tail (IsSavedEntry songs) after afters new))

all_ruled : (songs : List Row) (q : QueueState) (afters : List Entry) (changed : Uris) → All (IsSavedEntry songs) q.entries
    → All (IsSavedEntry songs) afters → All (IsSavedEntry songs) (ruled q afters changed).entries
all_ruled songs q afters changed old new = of (is_unchanged changed q.entries afters) (q.version == MAX_VERSION)
  where
    of : (same last : Bool)
        → All (IsSavedEntry songs)
        (cond same q (cond last (record q { entries = map (with_stamp 1) afters; version = 1 })
        (record q { entries = stamped changed (q.version + 1) q.entries afters; version = q.version + 1 }))).entries
    of true last = old
    of false true = All-map (IsSavedEntry songs) (with_stamp 1) afters
        (All-weaker (IsSavedEntry songs) (λ entry. IsSavedEntry songs (with_stamp 1 entry)) (entry_stamped songs 1) afters new)
    of false false = all_stamped songs changed (q.version + 1) q.entries afters old new

-- whatever the entries are that an edit leaves, if each of them could be saved
kept_ruled : (songs : List Row) (q : QueueState) (afters : List Entry) (changed : Uris) → IsSavedQueue songs q
    → AreFit q.next_id q.version afters → All (IsSavedEntry songs) afters → IsSavedQueue songs (ruled q afters changed)
kept_ruled songs q afters changed saved fit all =
    record { queue = sound-ruled q afters changed saved.queue fit; entries = all_ruled songs q afters changed saved.entries all }

-- entries in another order
kept_reordered : (songs : List Row) (q : QueueState) (afters : List Entry) → IsSavedQueue songs q → IsPermutation q.entries afters
    → IsSavedQueue songs (ruled q afters [])
kept_reordered songs q afters saved order =
    kept_ruled songs q afters [] saved (fit-reordered q.next_id q.version q.entries [] afters (fit-queue q saved.queue) order)
    (All-permutation (IsSavedEntry songs) q.entries afters order saved.entries)

pub kept_deleted : (songs : List Row) (q : QueueState) (start end : ℕ) → IsSavedQueue songs q → start ≤ end
    → IsSavedQueue songs (ruled q (deleted q.entries start end) [])
kept_deleted songs q start end saved forward =
    kept_ruled songs q (deleted q.entries start end) [] saved (fit-deleted q saved.queue start end forward)
    (All-append (IsSavedEntry songs) (take start q.entries) (drop end q.entries)
    (All-take (IsSavedEntry songs) start q.entries saved.entries) (All-drop (IsSavedEntry songs) end q.entries saved.entries))

-- the block in front of the rest
block_first : (entries : List Entry) (start end : ℕ) → start ≤ end
    → IsPermutation entries (slice_range entries start end ++ deleted entries start end)
block_first entries start end forward =
    let front = take start entries in
    let middle = slice_range entries start end in
    let back = drop end entries in
    let parts : entries ≡ (front ++ middle) ++ back = split_between entries start end forward ∙ sym (append_assoc front middle back) in
    let turned : IsPermutation ((front ++ middle) ++ back) ((middle ++ front) ++ back) =
    IsPermutation-append_left back _ _ (IsPermutation-append_comm front middle) in
    subst (IsPermutation entries) (append_assoc middle front back) (rw (← parts) at turned)

moved-permutes : (entries : List Entry) (start end to : ℕ) → start ≤ end → IsPermutation entries (moved entries start end to)
moved-permutes entries start end to forward =
    let rest = deleted entries start end in
    let middle = slice_range entries start end in
    let parts : middle ++ rest ≡ (middle ++ take to rest) ++ drop to rest =
    ap (λ l. middle ++ l) (sym (take-append-drop to rest)) ∙ sym (append_assoc middle (take to rest) (drop to rest)) in
    let turned : IsPermutation ((middle ++ take to rest) ++ drop to rest) ((take to rest ++ middle) ++ drop to rest) =
    IsPermutation-append_left (drop to rest) _ _ (IsPermutation-append_comm middle (take to rest)) in
    let first : IsPermutation entries ((middle ++ take to rest) ++ drop to rest) =
    subst (IsPermutation entries) parts (block_first entries start end forward) in
    subst (IsPermutation entries) (append_assoc (take to rest) middle (drop to rest)) (IsPermutation-trans _ _ _ first turned)

pub kept_moved : (songs : List Row) (q : QueueState) (start end to : ℕ) → IsSavedQueue songs q → start ≤ end
    → IsSavedQueue songs (ruled q (moved q.entries start end to) [])
kept_moved songs q start end to saved forward =
    kept_reordered songs q (moved q.entries start end to) saved (moved-permutes q.entries start end to forward)

pub kept_swapped : (songs : List Row) (q : QueueState) (one other : ℕ) → IsSavedQueue songs q → one < length q.entries
    → other < length q.entries → IsSavedQueue songs (ruled q (swap q.entries one other) [])
kept_swapped songs q one other saved in_one in_other =
    kept_reordered songs q (swap q.entries one other) saved
    (IsPermutation-swap q.entries (swap q.entries one other) one other in_one in_other refl)

pub kept_shuffled : (songs : List Row) (q : QueueState) (start end : ℕ) (words : List ℕ) → IsSavedQueue songs q → start ≤ end
    → end ≤ length q.entries → length words ≡ end - start → IsSavedQueue songs (ruled q (shuffled q.entries start end words) [])
kept_shuffled songs q start end words saved forward within drawn =
    kept_ruled songs q (shuffled q.entries start end words) [] saved (fit-shuffled q start end words saved.queue forward within drawn)
    (All-permutation (IsSavedEntry songs) q.entries _ (shuffled-permutes q.entries start end words forward within drawn) saved.entries)

all_prioritized : (songs : List Row) (ranges : List (ℕ × ℕ)) (priority n : ℕ) (entries : List Entry) → priority < 256
    → All (IsSavedEntry songs) entries
    → All (IsSavedEntry songs) (map (λ at. cond (is_in_some ranges at.0) (with_priority priority at.1) at.1) (enumerate_from n entries))
all_prioritized songs ranges priority n [] low all = λ k d within. absurd (omega arith)
all_prioritized songs ranges priority n (entry ∷ entries) low all =
    All-cons (IsSavedEntry songs) _ _ (of (is_in_some ranges n) (All-head (IsSavedEntry songs) entry entries all))
    (all_prioritized songs ranges priority (n + 1) entries low (All-tail (IsSavedEntry songs) entry entries all))
  where
    of : (b : Bool) → IsSavedEntry songs entry → IsSavedEntry songs (cond b (with_priority priority entry) entry)
    of true saved = record { has_row = saved.has_row; priority = low }
    of false saved = saved

pub kept_prioritized : (songs : List Row) (q : QueueState) (ranges : List (ℕ × ℕ)) (priority : ℕ) → IsSavedQueue songs q → priority < 256
    → IsSavedQueue songs (ruled q (prioritized q.entries ranges priority) [])
kept_prioritized songs q ranges priority saved low =
    kept_ruled songs q (prioritized q.entries ranges priority) [] saved (fit-prioritized q ranges priority saved.queue)
    (all_prioritized songs ranges priority 0 q.entries low saved.entries)

-- with ids given up to a later one
with_ids : (q : QueueState) (next : ℕ) → IsQueue q → q.next_id ≤ next → next ≤ MAX_ID + 1 → IsQueue (record q { next_id = next })
with_ids q next sound low high = record {
  few = sound.few;
  version_low = sound.version_low;
  version_high = sound.version_high;
  next_low = omega (arith, sound.next_low);
  next_high = high;
  entry = All-weaker (IsEntry q.next_id q.version) (IsEntry next q.version)
      (λ entry is. record { id_low = is.id_low; id_used = omega (arith, is.id_used); stamp_low = is.stamp_low; stamp_high = is.stamp_high })
      q.entries sound.entry;
  own_ids = sound.own_ids;
}

ids_first : (q : QueueState) (afters : List Entry) (next : ℕ)
    → ◌≡◌ {A = QueueState} (ruled (record q { next_id = next }) afters []) (record (ruled q afters []) { next_id = next })
ids_first q afters next = of (is_unchanged [] q.entries afters) (q.version == MAX_VERSION)
  where
    one : QueueState
    one = record q { entries = map (with_stamp 1) afters; version = 1 }

    of : (same last : Bool)
        → ◌≡◌ {A = QueueState}
        (cond same (record q { next_id = next })
        (cond last (record q { entries = map (with_stamp 1) afters; version = 1; next_id = next })
        (record q { entries = stamped [] (q.version + 1) q.entries afters; version = q.version + 1; next_id = next })))
        (record (cond same q (cond last (record q { entries = map (with_stamp 1) afters; version = 1 })
        (record q { entries = stamped [] (q.version + 1) q.entries afters; version = q.version + 1 }))) { next_id = next })
    of true last = refl
    of false true = refl
    of false false = refl

all_new : (songs : List Row) (first : ℕ) (uris : Uris) → All (λ uri. IsTrue (has_uri songs uri)) uris
    → All (IsSavedEntry songs) (new_entries first uris)
all_new songs first [] rows = λ k d within. absurd (omega arith)
all_new songs first (uri ∷ uris) rows =
    All-cons (IsSavedEntry songs) _ _ (record { has_row = All-head (λ u. IsTrue (has_uri songs u)) uri uris rows; priority = omega arith })
    (all_new songs (first + 1) uris (All-tail (λ u. IsTrue (has_uri songs u)) uri uris rows))

pub kept_added : (songs : List Row) (q : QueueState) (at : ℕ) (uris : Uris) → IsSavedQueue songs q
    → length q.entries + length uris ≤ MAX_ENTRIES → q.next_id + length uris ≤ MAX_ID + 1 → All (λ uri. IsTrue (has_uri songs uri)) uris
    → IsSavedQueue songs (record (ruled q (added q.entries at (new_entries q.next_id uris)) []) { next_id = q.next_id + length uris })
kept_added songs q at uris saved few ids rows =
    let next = q.next_id + length uris in
    let grown : QueueState = record q { next_id = next } in
    let sound : IsQueue grown = with_ids q next saved.queue (omega arith) ids in
    let all = All-append (IsSavedEntry songs) (take at q.entries) (new_entries q.next_id uris ++ drop at q.entries)
    (All-take (IsSavedEntry songs) at q.entries saved.entries)
    (All-append (IsSavedEntry songs) (new_entries q.next_id uris) (drop at q.entries) (all_new songs q.next_id uris rows)
    (All-drop (IsSavedEntry songs) at q.entries saved.entries)) in
    subst (IsSavedQueue songs) (ids_first q (added q.entries at (new_entries q.next_id uris)) next)
    (kept_ruled songs grown (added q.entries at (new_entries q.next_id uris)) [] (record { queue = sound; entries = saved.entries })
    (fit-added q at uris saved.queue few) all)
