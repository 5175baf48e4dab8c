-- Which ops of the queue leave a state as it is, and what the version tells.
use Rattle.std.proofs.Common.{◌≡◌, ℕ, ◌+◌, ◌↔◌, Bool, true, false, cond, ◌==◌, ◌&&◌, List, [], ◌∷◌, ◌++◌, length, map, take, drop}
use Rattle.std.proofs.Common.{None, refl, sym, ap, ◌∙◌, arith}
use Rattle.std.proofs.lemmas.Bool.{eqb-true, eq-eqb}
use Rattle.std.proofs.lemmas.List.{length-append, length-drop, length-take-le, take-append-drop}
use Rattle.play_queue.specs.declared.entry.Entry.{Entry}
use Rattle.play_queue.specs.Entries.{Uris, added, deleted, new_entries}
use Rattle.play_queue.specs.Limits.{MAX_VERSION}
use Rattle.play_queue.specs.Queue.{QueueState, is_same, is_unchanged, with_stamp, stamped, ruled}
use Rattle.play_queue.proofs.Ruling.{is_same-itself, ruled-itself}
use Rattle.play_queue.proofs.Versions.{tells_changes}
use Rattle.player_core.specs.Place.{place_left}
use Rattle.player_core.specs.Words.{next_order}
use Rattle.std.specs.Option.{option_map}
use Rattle.state_codec.specs.Laws.{but_kept}
use Rattle.state_codec.specs.OpsQueue.{queue_refusal, with_added, after_queue, leaves_queue, range}
use Rattle.state_codec.specs.OpsSongs.{have_rows, uris_at}
use Rattle.state_codec.specs.SavedState.{SavedState}
use Rattle.state_codec.specs.declared.op.queue_op.QueueOp.{QueueOp}
use Rattle.state_codec.specs.declared.op.queue_op.QueueOp.TheVariants.{Add, Delete, Move, Swap, Shuffle, Prio}
use Rattle.state_codec.proofs.Edits.{length-uris_at}
use Rattle.state_codec.proofs.KeptOps.{map_none, named_none, range_within}
use Rattle.state_codec.proofs.PlaceLaws.{left_stays_place, none_between}
use Rattle.state_codec.proofs.Unchanged.{same_length}

-- a queue in which nothing has changed
pub ruled_unchanged : (q : QueueState) (afters : List Entry) (changed : Uris) → is_unchanged changed q.entries afters ≡ true
    → ruled q afters changed ≡ q
ruled_unchanged q afters changed same = rw same refl

pub version_tells : (q : QueueState) (afters : List Entry) (changed : Uris) → (ruled q afters changed).version ≡ q.version
    → is_unchanged changed q.entries afters ≡ true
version_tells q afters changed same = (tells_changes q afters changed).0 same

same_queue : (s : SavedState) (q : QueueState) → q ≡ s.queue → record s { queue = q } ≡ s
same_queue s q same = ap (λ x. record s { queue = x }) same

-- no song is added
added_none : (q : QueueState) (at : ℕ) → with_added q at [] ≡ q
added_none q at =
    let next : q.next_id + 0 ≡ q.next_id = omega arith in
    ap (λ (r : QueueState). record r { next_id = q.next_id + 0 }) (ruled-itself q (added q.entries at []) (take-append-drop at q.entries))
    ∙ ap (λ (n : ℕ). record q { next_id = n }) next

no_rows : (n : ℕ) (rows : List ℕ) → (length (n ∷ rows) == 0) ≡ true → ⊥
no_rows n rows none = let long : length (n ∷ rows) ≡ 0 = eqb-true (length (n ∷ rows)) 0 none in omega arith

-- an empty range is deleted
deleted_none : (s : SavedState) (start end : ℕ) → queue_refusal (Delete start end) s ≡ None → leaves_queue (Delete start end) s ≡ true
    → after_queue (Delete start end) s ≡ s
deleted_none s start end none same =
    let entries = s.queue.entries in
    let within = range_within entries start end (map_none _ _ none) in
    let long : length entries ≡ length (deleted entries start end) = same_length [] entries (deleted entries start end) same in
    let empty : start ≡ end = omega (
      arith,
      within.0,
      within.1,
      long,
      length-append (take start entries) (drop end entries),
      length-take-le start entries (omega (arith, within.0, within.1)),
      length-drop end entries,
    ) in
    let place : option_map (place_left (range start end) [] entries) s.place ≡ s.place =
    ap (λ n. option_map (place_left (range start n) [] entries) s.place) (sym empty)
    ∙ left_stays_place (range start start) [] entries s.place (none_between start entries) in
    let queue : ruled s.queue (deleted entries start end) [] ≡ s.queue = ruled_unchanged s.queue _ [] same in
    λ i. record s { queue = queue i; place = place i }

pub queue_stays : (op : QueueOp) (s : SavedState) → queue_refusal op s ≡ None → leaves_queue op s ≡ true → after_queue op s ≡ s
queue_stays (Add at []) s none same = same_queue s (with_added s.queue at []) (added_none s.queue at)
queue_stays (Add at (n ∷ rows)) s none same = absurd (no_rows n rows same)
queue_stays (Delete start end) s none same = deleted_none s start end none same
queue_stays (Move start end to) s none same = same_queue s _ (ruled_unchanged s.queue _ [] same)
queue_stays (Swap one other) s none same = same_queue s _ (ruled_unchanged s.queue _ [] same)
queue_stays (Shuffle start end) s none same = absurd (cc)
queue_stays (Prio priority ranges) s none same = same_queue s _ (ruled_unchanged s.queue _ [] same)

-- the order number after one is another one
next_other : (order : ℕ) → next_order order ≡ order → ⊥
next_other order same = of (order == 18446744073709551615) refl same
  where
    of : (b : Bool) → (order == 18446744073709551615) ≡ b → cond b 0 (order + 1) ≡ order → ⊥
    of true last same = omega (arith, eqb-true order 18446744073709551615 last)
    of false other same = omega arith

-- where it changes nothing but perhaps the player's place and the playlists' times
pub queue_apart : (op : QueueOp) (other : SavedState) (s : SavedState) → queue_refusal op s ≡ None
    → after_queue op s ≡ but_kept other s → leaves_queue op s ≡ true
queue_apart (Add at rows) place s none same =
    let named : have_rows s.songs rows ≡ true = (named_none (have_rows s.songs rows) _ none).0 in
    let next : s.queue.next_id + length (uris_at s.songs rows) ≡ s.queue.next_id = ap (λ (t : SavedState). t.queue.next_id) same in
    eq-eqb (length rows) 0 (omega (arith, length-uris_at s.songs rows named))
queue_apart (Delete start end) place s none same = version_tells s.queue _ [] (ap (λ (t : SavedState). t.queue.version) same)
queue_apart (Move start end to) place s none same = version_tells s.queue _ [] (ap (λ (t : SavedState). t.queue.version) same)
queue_apart (Swap one other) place s none same = version_tells s.queue _ [] (ap (λ (t : SavedState). t.queue.version) same)
queue_apart (Shuffle start end) place s none same = absurd (next_other s.order (ap (λ (t : SavedState). t.order) same))
queue_apart (Prio priority ranges) place s none same = version_tells s.queue _ [] (ap (λ (t : SavedState). t.queue.version) same)

pub queue_only : (op : QueueOp) (s : SavedState) → queue_refusal op s ≡ None → after_queue op s ≡ s → leaves_queue op s ≡ true
queue_only op s none same = queue_apart op s s none same

length-new_entries : (first : ℕ) (uris : Uris) → length (new_entries first uris) ≡ length uris
length-new_entries first [] = refl
length-new_entries first (uri ∷ uris) =
    let rest : length (new_entries (first + 1) uris) ≡ length uris = length-new_entries (first + 1) uris in omega arith

-- entries that were added make the list longer
length-added : (entries : List Entry) (at : ℕ) (new : List Entry) → length (added entries at new) ≡ length entries + length new
length-added entries at new =
    let whole : length (take at entries ++ drop at entries) ≡ length entries = ap length (take-append-drop at entries) in
    omega (
      arith,
      length-append (take at entries) (new ++ drop at entries),
      length-append new (drop at entries),
      length-append (take at entries) (drop at entries),
    )

added_unchanged : (q : QueueState) (at : ℕ) (uris : Uris)
    → is_unchanged [] q.entries (added q.entries at (new_entries q.next_id uris)) ≡ true
    → with_added q at uris ≡ q
added_unchanged q at [] same = added_none q at
added_unchanged q at (uri ∷ uris) same =
    let new : List Entry = new_entries q.next_id (uri ∷ uris) in
    let long : length q.entries ≡ length (added q.entries at new) = same_length [] q.entries (added q.entries at new) same in
    absurd (omega (arith, length-added q.entries at new, length-new_entries q.next_id (uri ∷ uris)))

-- the version tells whether the queue has changed
pub queue_version : (op : QueueOp) (s : SavedState)
    → ((after_queue op s).queue.version ≡ s.queue.version) ↔ ((after_queue op s).queue ≡ s.queue)
queue_version op s = (of op, λ same. ap (λ (q : QueueState). q.version) same)
  where
    of : (op : QueueOp) → (after_queue op s).queue.version ≡ s.queue.version → (after_queue op s).queue ≡ s.queue
    of (Add at rows) same = added_unchanged s.queue at (uris_at s.songs rows) (version_tells s.queue _ [] same)
    of (Delete start end) same = ruled_unchanged s.queue _ [] (version_tells s.queue _ [] same)
    of (Move start end to) same = ruled_unchanged s.queue _ [] (version_tells s.queue _ [] same)
    of (Swap one other) same = ruled_unchanged s.queue _ [] (version_tells s.queue _ [] same)
    of (Shuffle start end) same = ruled_unchanged s.queue _ [] (version_tells s.queue _ [] same)
    of (Prio priority ranges) same = ruled_unchanged s.queue _ [] (version_tells s.queue _ [] same)

-- entries that differ in their stamps alone
map_unchanged : (stamp : ℕ) (afters : List Entry) → is_unchanged [] (map (with_stamp stamp) afters) afters ≡ true
map_unchanged stamp [] = refl
map_unchanged stamp (after ∷ afters) =
    let here : is_same [] (with_stamp stamp after) after ≡ true = is_same-itself after in
    rw here (map_unchanged stamp afters)

stamped_unchanged : (stamp : ℕ) (befores afters : List Entry) → is_unchanged [] (stamped [] stamp befores afters) afters ≡ true
stamped_unchanged stamp befores [] = refl
stamped_unchanged stamp [] (after ∷ afters) =
    let here : is_same [] (with_stamp stamp after) after ≡ true = is_same-itself after in
    rw here (stamped_unchanged stamp [] afters)
stamped_unchanged stamp (before ∷ befores) (after ∷ afters) = of (is_same [] before after) refl (stamped_unchanged stamp befores afters)
  where
    of : (b : Bool) → is_same [] before after ≡ b → is_unchanged [] (stamped [] stamp befores afters) afters ≡ true
        → (is_same [] (cond b before (with_stamp stamp after)) after && is_unchanged [] (stamped [] stamp befores afters) afters) ≡ true
    of true same rest = rw same rest
    of false other rest =
        let here : is_same [] (with_stamp stamp after) after ≡ true = is_same-itself after in
        rw here rest

-- where no row is another one, the entries tell it too
entries_tell : (q : QueueState) (afters : List Entry) → (ruled q afters []).entries ≡ q.entries → is_unchanged [] q.entries afters ≡ true
entries_tell q afters same = of (is_unchanged [] q.entries afters) (q.version == MAX_VERSION) refl same
  where
    of : (b m : Bool) → is_unchanged [] q.entries afters ≡ b
        → (cond b q (cond m (record q { entries = map (with_stamp 1) afters; version = 1 }) (record q {
          entries = stamped [] (q.version + 1) q.entries afters;
          version = q.version + 1;
        }))).entries ≡ q.entries → is_unchanged [] q.entries afters ≡ true
    of true m is same = is
    of false true is same = ap (λ es. is_unchanged [] es afters) (sym same) ∙ map_unchanged 1 afters
    of false false is same = ap (λ es. is_unchanged [] es afters) (sym same) ∙ stamped_unchanged (q.version + 1) q.entries afters

pub queue_entries : (op : QueueOp) (s : SavedState)
    → ((after_queue op s).queue.version ≡ s.queue.version) ↔ ((after_queue op s).queue.entries ≡ s.queue.entries)
queue_entries op s = (λ same. ap (λ (q : QueueState). q.entries) ((queue_version op s).0 same), of op)
  where
    stays : (afters : List Entry) → (ruled s.queue afters []).entries ≡ s.queue.entries
        → (ruled s.queue afters []).version ≡ s.queue.version
    stays afters same = ap (λ (q : QueueState). q.version) (ruled_unchanged s.queue afters [] (entries_tell s.queue afters same))

    of : (op : QueueOp) → (after_queue op s).queue.entries ≡ s.queue.entries → (after_queue op s).queue.version ≡ s.queue.version
    of (Add at rows) same = stays _ same
    of (Delete start end) same = stays _ same
    of (Move start end to) same = stays _ same
    of (Swap one other) same = stays _ same
    of (Shuffle start end) same = stays _ same
    of (Prio priority ranges) same = stays _ same
