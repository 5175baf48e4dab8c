-- What passes a test of ids and URIs is there behind each op of the queue that deletes nothing.
use Rattle.std.proofs.Common.{◌≡◌, ℕ, ◌+◌, ◌-◌, ◌≤◌, Bool, true, false, cond, ◌==◌, ◌||◌, ◌&&◌, List, [], ◌∷◌, ◌++◌, length, map}
use Rattle.std.proofs.Common.{take, drop, slice_range, swap, None, refl, sym, ap, ◌∙◌, subst, ◌⊎◌, inl, inr}
use Rattle.std.proofs.lemmas.Bool.{eqb-true}
use Rattle.std.proofs.lemmas.Slice.Eq.{bytes_eq-Decides}
use Rattle.std.proofs.lemmas.List.{take-append-drop, length-map}
use Rattle.std.proofs.lemmas.List.Edits.{split_between, length-between}
use Rattle.std.proofs.lemmas.List.Sorted.{IsPermutation-swap, list_any-IsPermutation}
use Rattle.std.specs.List.{enumerate_from, list_any}
use Rattle.std.specs.List.Sorted.{IsPermutation}
use Rattle.std.specs.Str.{bytes_eq}
use Rattle.play_queue.specs.declared.entry.Entry.{Entry}
use Rattle.play_queue.specs.Entries.{Uris, block, deleted, moved, added, new_entries, prioritized, with_priority, is_in_some}
use Rattle.play_queue.specs.Limits.{MAX_VERSION}
use Rattle.play_queue.specs.Queue.{QueueState, is_same, is_unchanged, with_stamp, stamped, ruled}
use Rattle.play_queue.specs.Shuffle.{shuffled}
use Rattle.play_queue.proofs.Moved.{shuffled-permutes}
use Rattle.player_core.specs.Words.{word, next_order}
use Rattle.state_codec.specs.OpsSongs.{uris_at}
use Rattle.state_codec.specs.OpsQueue.{queue_refusal, after_queue, words_for}
use Rattle.state_codec.specs.SavedState.{SavedState}
use Rattle.state_codec.specs.declared.op.queue_op.QueueOp.{QueueOp}
use Rattle.state_codec.specs.declared.op.queue_op.QueueOp.TheVariants.{Add, Delete, Move, Swap, Shuffle, Prio}
use Rattle.state_codec.proofs.KeptOps.{map_none, range_within, move_forward, swap_within}
use Rattle.machine_core.proofs.Sound.Ids.{Has, Carries, has_more, has_front, has_back, has_either}

-- the stamp and the priority are nothing to the test
pub record IsTest (test : Entry → Bool) : Type 0 where
  pub stamp : (stamp : ℕ) (entry : Entry) → test (with_stamp stamp entry) ≡ test entry
  pub priority : (priority : ℕ) (entry : Entry) → test (with_priority priority entry) ≡ test entry
  pub same : (changed : Uris) (before after : Entry) → is_same changed before after ≡ true → test before ≡ test after

both_first : (a b : Bool) → (a && b) ≡ true → a ≡ true
both_first true b h = refl
both_first false b h = absurd (cc)

both_last : (a b : Bool) → (a && b) ≡ true → b ≡ true
both_last true b h = h
both_last false b h = absurd (cc)

same_id : (changed : Uris) (before after : Entry) → is_same changed before after ≡ true → before.id ≡ after.id
same_id changed before after same = eqb-true before.id after.id (both_first (before.id == after.id) _ same)

same_uri : (changed : Uris) (before after : Entry) → is_same changed before after ≡ true → before.uri ≡ after.uri
same_uri changed before after same =
    (bytes_eq-Decides before.uri after.uri).0 (both_first (bytes_eq before.uri after.uri) _
    (both_last (before.priority == after.priority) _ (both_last (before.id == after.id) _ same)))

pub id_test : (id : ℕ) → IsTest (λ entry. entry.id == id)
id_test id = record {
  stamp = λ stamp entry. refl;
  priority = λ priority entry. refl;
  same = λ changed before after same. ap (λ n. n == id) (same_id changed before after same);
}

pub song_test : (id : ℕ) (uri : List ℕ) → IsTest (λ entry. entry.id == id && bytes_eq entry.uri uri)
song_test id uri = record {
  stamp = λ stamp entry. refl;
  priority = λ priority entry. refl;
  same = λ changed before after same.
      (λ i. same_id changed before after same i == id && bytes_eq (same_uri changed before after same i) uri);
}

-- ops of the queue, but for deletions, leave each entry there
abbrev pub keeps_entries : QueueOp → Bool
keeps_entries (Add at rows) = true
keeps_entries (Delete start end) = false
keeps_entries (Move start end to) = true
keeps_entries (Swap one other) = true
keeps_entries (Shuffle start end) = true
keeps_entries (Prio priority ranges) = true

module _ (test : Entry → Bool) (fits : IsTest test) where
  -- ---- the stamp rule

  unchanged_has : (changed : Uris) (befores afters : List Entry) → is_unchanged changed befores afters ≡ true → Carries test afters befores
  unchanged_has changed [] [] same h = h
  unchanged_has changed [] (after ∷ afters) same h = absurd (cc)
  unchanged_has changed (before ∷ befores) [] same h = absurd (cc)
  unchanged_has changed (before ∷ befores) (after ∷ afters) same h =
      let equal : test after ≡ test before = sym (fits.same changed before after (both_first (is_same changed before after) _ same)) in
      has_more (test before) (list_any test afters) (list_any test befores)
      (unchanged_has changed befores afters (both_last (is_same changed before after) _ same))
      (ap (λ b. b || list_any test afters) (sym equal) ∙ h)

  stamp_has : (stamp : ℕ) (entries : List Entry) → Carries test entries (map (with_stamp stamp) entries)
  stamp_has stamp [] h = h
  stamp_has stamp (entry ∷ entries) h =
      has_more (test (with_stamp stamp entry)) (list_any test entries) (list_any test (map (with_stamp stamp) entries))
      (stamp_has stamp entries) (ap (λ b. b || list_any test entries) (fits.stamp stamp entry) ∙ h)

  chosen_same : (changed : Uris) (stamp : ℕ) (before after : Entry) (same : Bool) → is_same changed before after ≡ same
      → test (cond same before (with_stamp stamp after)) ≡ test after
  chosen_same changed stamp before after true same = fits.same changed before after same
  chosen_same changed stamp before after false other = fits.stamp stamp after

  stamped_has : (changed : Uris) (stamp : ℕ) (befores afters : List Entry) → Carries test afters (stamped changed stamp befores afters)
  stamped_has changed stamp befores [] h = absurd (cc)
  stamped_has changed stamp [] (after ∷ afters) h =
      has_more (test (with_stamp stamp after)) (list_any test afters) (list_any test (stamped changed stamp [] afters))
      (stamped_has changed stamp [] afters) (ap (λ b. b || list_any test afters) (fits.stamp stamp after) ∙ h)
  stamped_has changed stamp (before ∷ befores) (after ∷ afters) h =
      has_more (test (cond (is_same changed before after) before (with_stamp stamp after))) (list_any test afters)
      (list_any test (stamped changed stamp befores afters)) (stamped_has changed stamp befores afters)
      (ap (λ b. b || list_any test afters) (chosen_same changed stamp before after (is_same changed before after) refl) ∙ h)

  -- an edit's entries are there behind the stamp rule
  pub ruled_has : (q : QueueState) (afters : List Entry) (changed : Uris) → Carries test afters (ruled q afters changed).entries
  ruled_has q afters changed = of (is_unchanged changed q.entries afters) refl (q.version == MAX_VERSION)
    where
      of : (same : Bool) → is_unchanged changed q.entries afters ≡ same → (last : Bool)
          → Carries test afters
          (cond same q (cond last (record q { entries = map (with_stamp 1) afters; version = 1 })
          (record q { entries = stamped changed (q.version + 1) q.entries afters; version = q.version + 1 }))).entries
      of true same last = unchanged_has changed q.entries afters same
      of false same true = stamp_has 1 afters
      of false same false = stamped_has changed (q.version + 1) q.entries afters

  -- ---- edits

  added_has : (entries new : List Entry) (at : ℕ) → Carries test entries (added entries at new)
  added_has entries new at h =
      of (has_either test (take at entries) (drop at entries) (subst (Has test) (sym (take-append-drop at entries)) h))
    where
      of : (Has test (take at entries)) ⊎ (Has test (drop at entries)) → Has test (added entries at new)
      of (inl h) = has_front test (take at entries) (new ++ drop at entries) h
      of (inr h) = has_back test (take at entries) (new ++ drop at entries) (has_back test new (drop at entries) h)

  rest_moved : (entries : List Entry) (start end to : ℕ) → Carries test (deleted entries start end) (moved entries start end to)
  rest_moved entries start end to h =
      of (has_either test (take to rest) (drop to rest) (subst (Has test) (sym (take-append-drop to rest)) h))
    where
      rest : List Entry
      rest = deleted entries start end

      middle : List Entry
      middle = slice_range entries start end

      of : (Has test (take to rest)) ⊎ (Has test (drop to rest)) → Has test (moved entries start end to)
      of (inl h) = has_front test (take to rest) (middle ++ drop to rest) h
      of (inr h) = has_back test (take to rest) (middle ++ drop to rest) (has_back test middle (drop to rest) h)

  moved_has : (entries : List Entry) (start end to : ℕ) → start ≤ end → Carries test entries (moved entries start end to)
  moved_has entries start end to forward h =
      of (has_either test (take start entries) (middle ++ drop end entries) (subst (Has test) (split_between entries start end forward) h))
    where
      rest : List Entry
      rest = deleted entries start end

      middle : List Entry
      middle = slice_range entries start end

      behind : (Has test middle) ⊎ (Has test (drop end entries)) → Has test (moved entries start end to)
      behind (inl h) = has_back test (take to rest) (middle ++ drop to rest) (has_front test middle (drop to rest) h)
      behind (inr h) = rest_moved entries start end to (has_back test (take start entries) (drop end entries) h)

      of : (Has test (take start entries)) ⊎ (Has test (middle ++ drop end entries)) → Has test (moved entries start end to)
      of (inl h) = rest_moved entries start end to (has_front test (take start entries) (drop end entries) h)
      of (inr h) = behind (has_either test middle (drop end entries) h)

  permuted_has : (entries others : List Entry) → IsPermutation entries others → Carries test entries others
  permuted_has entries others order h = sym (list_any-IsPermutation test entries others order) ∙ h

  prioritized_has : (ranges : List (ℕ × ℕ)) (priority at : ℕ) (entries : List Entry)
      → Carries test entries (map (λ one. cond (is_in_some ranges one.0) (with_priority priority one.1) one.1) (enumerate_from at entries))
  prioritized_has ranges priority at [] h = h
  prioritized_has ranges priority at (entry ∷ entries) h =
      has_more (test (cond (is_in_some ranges at) (with_priority priority entry) entry)) (list_any test entries)
      (list_any test (map (λ one. cond (is_in_some ranges one.0) (with_priority priority one.1) one.1) (enumerate_from (at + 1) entries)))
      (prioritized_has ranges priority (at + 1) entries)
      (ap (λ b. b || list_any test entries) (of (is_in_some ranges at)) ∙ h)
    where
      of : (inside : Bool) → test (cond inside (with_priority priority entry) entry) ≡ test entry
      of true = fits.priority priority entry
      of false = refl

  pub op_has : (op : QueueOp) (s : SavedState) → queue_refusal op s ≡ None → keeps_entries op ≡ true
      → Carries test s.queue.entries (after_queue op s).queue.entries
  op_has (Add at rows) s none keeps h =
      ruled_has s.queue (added s.queue.entries at (new_entries s.queue.next_id (uris_at s.songs rows))) []
      (added_has s.queue.entries (new_entries s.queue.next_id (uris_at s.songs rows)) at h)
  op_has (Delete start end) s none keeps h = absurd (cc)
  op_has (Move start end to) s none keeps h =
      ruled_has s.queue (moved s.queue.entries start end to) []
      (moved_has s.queue.entries start end to (move_forward s.queue.entries start end to (map_none _ _ none)) h)
  op_has (Swap one other) s none keeps h =
      let within = swap_within s.queue.entries one other (map_none _ _ none) in
      ruled_has s.queue (swap s.queue.entries one other) []
      (permuted_has s.queue.entries (swap s.queue.entries one other)
      (IsPermutation-swap s.queue.entries (swap s.queue.entries one other) one other within.0 within.1 refl) h)
  op_has (Shuffle start end) s none keeps h =
      let within = range_within s.queue.entries start end (map_none _ _ none) in
      let words = words_for s.key (next_order s.order) s.queue.entries start end in
      let long : length words ≡ end - start =
      length-map (block s.queue.entries start end) (λ (entry : Entry). word s.key (next_order s.order) entry.id)
      ∙ length-between s.queue.entries start end within.1 in
      ruled_has s.queue (shuffled s.queue.entries start end words) []
      (permuted_has s.queue.entries (shuffled s.queue.entries start end words)
      (shuffled-permutes s.queue.entries start end words within.0 within.1 long) h)
  op_has (Prio priority ranges) s none keeps h =
      ruled_has s.queue (prioritized s.queue.entries ranges priority) [] (prioritized_has ranges priority 0 s.queue.entries h)
