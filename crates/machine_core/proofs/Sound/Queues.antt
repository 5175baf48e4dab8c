-- A queue stays one through each op: its ids differ.
use Rattle.std.proofs.Common.{◌≡◌, ℕ, ◌+◌, ◌-◌, ◌≤◌, Bool, true, false, cond, ◌==◌, List, [], ◌++◌, length, map, take, drop, slice_range}
use Rattle.std.proofs.Common.{swap, None, refl, sym, ap, ◌∙◌, subst, arith}
use Rattle.std.specs.List.Sorted.{IsPermutation}
use Rattle.std.proofs.lemmas.List.{append_assoc, length-map, take-append-drop}
use Rattle.std.proofs.lemmas.List.Edits.{length-between, split_between}
use Rattle.std.proofs.lemmas.List.Elements.{All-weaker}
use Rattle.std.proofs.lemmas.List.Sorted.{IsPermutation-append_comm, IsPermutation-append_left, IsPermutation-swap, IsPermutation-trans}
use Rattle.play_queue.specs.Entries.{Uris, added, block, deleted, kept, moved, new_entries, prioritized}
use Rattle.play_queue.specs.Limits.{MAX_ID, MAX_VERSION}
use Rattle.play_queue.specs.Queue.{QueueState, IsEntry, IsQueue, is_unchanged, ruled, stamped, with_stamp}
use Rattle.play_queue.specs.Shuffle.{shuffled}
use Rattle.play_queue.specs.declared.entry.Entry.{Entry}
use Rattle.play_queue.proofs.Added.{fit-added}
use Rattle.play_queue.proofs.Kept.{fit-kept, sound-ruled}
use Rattle.play_queue.proofs.Moved.{fit-shuffled}
use Rattle.play_queue.proofs.Prioritized.{fit-prioritized}
use Rattle.play_queue.proofs.Sound.{fit-deleted, fit-queue, fit-reordered}
use Rattle.player_core.specs.Words.{next_order, word}
use Rattle.state_codec.specs.OpsQueue.{after_queue, queue_refusal, words_for}
use Rattle.state_codec.specs.OpsSongs.{have_rows, uris_at}
use Rattle.state_codec.specs.SavedState.{SavedState}
use Rattle.state_codec.specs.declared.op.queue_op.QueueOp.{QueueOp}
use Rattle.state_codec.specs.declared.op.queue_op.QueueOp.TheVariants.{Add, Delete, Move, Swap, Shuffle, Prio}
use Rattle.state_codec.proofs.Edits.{length-uris_at}
use Rattle.state_codec.proofs.KeptOps.{add_within, map_none, move_forward, named_none, range_within, swap_within}

-- with ids given up to a later one
with_ids : (q : QueueState) (next : ℕ) → IsQueue q → q.next_id ≤ next → next ≤ MAX_ID + 1 → IsQueue (record q { next_id = next })
with_ids q next sound low high = record {
  few = sound.few;
  version_low = sound.version_low;
  version_high = sound.version_high;
  next_low = omega (arith, sound.next_low);
  next_high = high;
  entry = All-weaker (IsEntry q.next_id q.version) (IsEntry next q.version)
      (λ entry is. record { id_low = is.id_low; id_used = omega (arith, is.id_used); stamp_low = is.stamp_low; stamp_high = is.stamp_high })
      q.entries sound.entry;
  own_ids = sound.own_ids;
}

ids_first : (q : QueueState) (afters : List Entry) (next : ℕ)
    → ◌≡◌ {A = QueueState} (ruled (record q { next_id = next }) afters []) (record (ruled q afters []) { next_id = next })
ids_first q afters next = of (is_unchanged [] q.entries afters) (q.version == MAX_VERSION)
  where
    of : (same last : Bool)
        → ◌≡◌ {A = QueueState}
        (cond same (record q { next_id = next })
        (cond last (record q { entries = map (with_stamp 1) afters; version = 1; next_id = next })
        (record q { entries = stamped [] (q.version + 1) q.entries afters; version = q.version + 1; next_id = next })))
        (record (cond same q (cond last (record q { entries = map (with_stamp 1) afters; version = 1 })
        (record q { entries = stamped [] (q.version + 1) q.entries afters; version = q.version + 1 }))) { next_id = next })
    of true last = refl
    of false true = refl
    of false false = refl

-- the block in front of the rest
block_first : (entries : List Entry) (start end : ℕ) → start ≤ end
    → IsPermutation entries (slice_range entries start end ++ deleted entries start end)
block_first entries start end forward =
    let front = take start entries in
    let middle = slice_range entries start end in
    let back = drop end entries in
    let parts : entries ≡ (front ++ middle) ++ back = split_between entries start end forward ∙ sym (append_assoc front middle back) in
    let turned : IsPermutation ((front ++ middle) ++ back) ((middle ++ front) ++ back) =
    IsPermutation-append_left back _ _ (IsPermutation-append_comm front middle) in
    subst (IsPermutation entries) (append_assoc middle front back) (rw (← parts) at turned)

moved-permutes : (entries : List Entry) (start end to : ℕ) → start ≤ end → IsPermutation entries (moved entries start end to)
moved-permutes entries start end to forward =
    let rest = deleted entries start end in
    let middle = slice_range entries start end in
    let parts : middle ++ rest ≡ (middle ++ take to rest) ++ drop to rest =
    ap (λ l. middle ++ l) (sym (take-append-drop to rest)) ∙ sym (append_assoc middle (take to rest) (drop to rest)) in
    let turned : IsPermutation ((middle ++ take to rest) ++ drop to rest) ((take to rest ++ middle) ++ drop to rest) =
    IsPermutation-append_left (drop to rest) _ _ (IsPermutation-append_comm middle (take to rest)) in
    let first : IsPermutation entries ((middle ++ take to rest) ++ drop to rest) =
    subst (IsPermutation entries) parts (block_first entries start end forward) in
    subst (IsPermutation entries) (append_assoc (take to rest) middle (drop to rest)) (IsPermutation-trans _ _ _ first turned)

reordered : (q : QueueState) (afters : List Entry) → IsQueue q → IsPermutation q.entries afters → IsQueue (ruled q afters [])
reordered q afters sound order =
    sound-ruled q afters [] sound (fit-reordered q.next_id q.version q.entries [] afters (fit-queue q sound) order)

pub queue_stays : (op : QueueOp) (s : SavedState) → queue_refusal op s ≡ None → IsQueue s.queue → IsQueue (after_queue op s).queue
queue_stays (Add at rows) s none sound =
    let q = s.queue in
    let uris = uris_at s.songs rows in
    let parts = named_none (have_rows s.songs rows) _ none in
    let within = add_within q at (length rows) (map_none _ _ parts.1) in
    let long : length uris ≡ length rows = length-uris_at s.songs rows parts.0 in
    let next = q.next_id + length uris in
    let grown : QueueState = record q { next_id = next } in
    let bigger : IsQueue grown = with_ids q next sound (omega arith) (omega (arith, within.1, long)) in
    subst IsQueue (ids_first q (added q.entries at (new_entries q.next_id uris)) next)
    (sound-ruled grown (added q.entries at (new_entries q.next_id uris)) [] bigger
    (fit-added q at uris sound (omega (arith, within.0, long))))
queue_stays (Delete start end) s none sound =
    sound-ruled s.queue (deleted s.queue.entries start end) [] sound
    (fit-deleted s.queue sound start end (range_within s.queue.entries start end (map_none _ _ none)).0)
queue_stays (Move start end to) s none sound =
    reordered s.queue (moved s.queue.entries start end to) sound
    (moved-permutes s.queue.entries start end to (move_forward s.queue.entries start end to (map_none _ _ none)))
queue_stays (Swap one other) s none sound =
    let within = swap_within s.queue.entries one other (map_none _ _ none) in
    reordered s.queue (swap s.queue.entries one other) sound
    (IsPermutation-swap s.queue.entries (swap s.queue.entries one other) one other within.0 within.1 refl)
queue_stays (Shuffle start end) s none sound =
    let within = range_within s.queue.entries start end (map_none _ _ none) in
    let words = words_for s.key (next_order s.order) s.queue.entries start end in
    let long : length words ≡ end - start =
    length-map (block s.queue.entries start end) (λ (entry : Entry). word s.key (next_order s.order) entry.id)
    ∙ length-between s.queue.entries start end within.1 in
    sound-ruled s.queue (shuffled s.queue.entries start end words) [] sound
    (fit-shuffled s.queue start end words sound within.0 within.1 long)
queue_stays (Prio priority ranges) s none sound =
    sound-ruled s.queue (prioritized s.queue.entries ranges priority) [] sound (fit-prioritized s.queue ranges priority sound)

pub consumed_stays : (q : QueueState) (at : ℕ) → IsQueue q → IsQueue (ruled q (deleted q.entries at (at + 1)) [])
consumed_stays q at sound = sound-ruled q (deleted q.entries at (at + 1)) [] sound (fit-deleted q sound at (at + 1) (omega arith))

pub batch_stays : (q : QueueState) (dropped changed : Uris) → IsQueue q → IsQueue (ruled q (kept q.entries dropped) changed)
batch_stays q dropped changed sound = sound-ruled q (kept q.entries dropped) changed sound (fit-kept q dropped sound)
