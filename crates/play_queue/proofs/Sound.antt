-- What every queue keeps is kept by each edit and its stamps.
use Rattle.std.proofs.Common.{◌≡◌, ℕ, ◌+◌, ◌-◌, ◌≤◌, Bool, true, false, cond, ◌==◌, List, [], ◌∷◌, ◌++◌, length, map, take, drop}
use Rattle.std.proofs.Common.{slice_range, refl, sym, ap, ◌∙◌, subst, arith}
use Rattle.std.specs.List.{All}
use Rattle.std.specs.List.Sorted.{IsPermutation}
use Rattle.std.proofs.lemmas.Bool.{eqb-false}
use Rattle.std.proofs.lemmas.List.{append_assoc, length-take-le, length-map, length-append, map-append, get_or-append-add}
use Rattle.std.proofs.lemmas.List.Edits.{split_between}
use Rattle.std.proofs.lemmas.List.Elements.{All-append, All-map, All-weaker, All-take, All-drop}
use Rattle.std.proofs.lemmas.List.Sorted.{All-permutation, length_permutation, IsPermutation-append_left, IsPermutation-append_comm}
use Rattle.play_queue.specs.declared.entry.Entry.{Entry}
use Rattle.play_queue.specs.Limits.{MAX_ENTRIES, MAX_ID, MAX_VERSION}
use Rattle.play_queue.specs.Entries.{deleted}
use Rattle.play_queue.specs.Queue.{QueueState, IsEntry, IsQueue, HaveOwnIds, ids_of, with_stamp}
use Rattle.play_queue.specs.Restamp.{restamped, next_version}
use Rattle.play_queue.proofs.OwnIds.{own_ids-permutation, own_ids-back}

-- a list of entries that a queue may have before they are stamped
pub record AreFit (next_id version : ℕ) (entries : List Entry) : Type 0 where
  pub few : length entries ≤ MAX_ENTRIES
  pub entry : All (IsEntry next_id version) entries
  pub own_ids : HaveOwnIds entries

pub ids-with_stamp : (stamp : ℕ) (entries : List Entry) → ids_of (map (with_stamp stamp) entries) ≡ ids_of entries
ids-with_stamp stamp [] = refl
ids-with_stamp stamp (entry ∷ entries) = ap (λ ids. entry.id ∷ ids) (ids-with_stamp stamp entries)

ids-append : (front back : List Entry) → ids_of (front ++ back) ≡ ids_of front ++ ids_of back
ids-append front back = map-append (λ entry. entry.id) front back

ids-restamped_part : (stamp start end : ℕ) (entries : List Entry) → start ≤ end
    → ids_of (take start entries ++ (map (with_stamp stamp) (slice_range entries start end) ++ drop end entries)) ≡ ids_of entries
ids-restamped_part stamp start end entries forward =
    rw (
      ids-append (take start entries) (map (with_stamp stamp) (slice_range entries start end) ++ drop end entries),
      ids-append (map (with_stamp stamp) (slice_range entries start end)) (drop end entries),
      ids-with_stamp stamp (slice_range entries start end),
      ← ids-append (slice_range entries start end) (drop end entries),
      ← ids-append (take start entries) (slice_range entries start end ++ drop end entries),
      ← split_between entries start end forward,
    )
    refl

same_length : (entries others : List Entry) → ids_of entries ≡ ids_of others → length entries ≡ length others
same_length entries others same = sym (length-map entries (λ entry. entry.id)) ∙ ap length same ∙ length-map others (λ entry. entry.id)

pub own_ids-same : (entries others : List Entry) → ids_of entries ≡ ids_of others → HaveOwnIds others → HaveOwnIds entries
own_ids-same entries others same own = rw same own

pub with_new_stamp : (next_id version stamp : ℕ) → 1 ≤ stamp → (entries : List Entry) → All (IsEntry next_id version) entries
    → All (IsEntry next_id stamp) (map (with_stamp stamp) entries)
with_new_stamp next_id version stamp low entries all =
    All-map (IsEntry next_id stamp) (with_stamp stamp) entries
    (All-weaker (IsEntry next_id version) (λ entry. IsEntry next_id stamp (with_stamp stamp entry))
    (λ entry fit. record { id_low = fit.id_low; id_used = fit.id_used; stamp_low = low; stamp_high = omega arith }) entries all)

pub grown : (next_id version later : ℕ) → version ≤ later → (entries : List Entry) → All (IsEntry next_id version) entries
    → All (IsEntry next_id later) entries
grown next_id version later le entries all =
    All-weaker (IsEntry next_id version) (IsEntry next_id later)
    (λ entry fit. record {
      id_low = fit.id_low;
      id_used = fit.id_used;
      stamp_low = fit.stamp_low;
      stamp_high =
          omega (arith, fit.stamp_high);
    }) entries all

pub sound-restamped : (next_id version start end : ℕ) (entries : List Entry) → 1 ≤ version → version ≤ MAX_VERSION → 1 ≤ next_id
    → next_id ≤ MAX_ID + 1 → AreFit next_id version entries → start ≤ end
    → IsQueue (record { entries = restamped version start end entries; version = next_version version; next_id = next_id })
sound-restamped next_id version start end entries low high next_low next_high fit forward = by_cases (version == MAX_VERSION) refl
  where
    by_cases : (b : Bool) → (version == MAX_VERSION) ≡ b
        → IsQueue (record {
          entries =
              cond b (map (with_stamp 1) entries)
              (take start entries ++ (map (with_stamp (version + 1)) (slice_range entries start end) ++ drop end entries));
          version =
              cond b 1 (version + 1);
          next_id = next_id;
        })
    by_cases true is = record {
      few = omega (arith, fit.few, length-map entries (with_stamp 1));
      version_low = omega arith;
      version_high = omega arith;
      next_low = next_low;
      next_high = next_high;
      entry = with_new_stamp next_id version 1 (omega arith) entries fit.entry;
      own_ids = own_ids-same (map (with_stamp 1) entries) entries (ids-with_stamp 1 entries) fit.own_ids;
    }
    by_cases false is =
        let apart = eqb-false version MAX_VERSION is in
        let all = grown next_id version (version + 1) (omega arith) entries fit.entry in
        let ids = ids-restamped_part (version + 1) start end entries forward in
        record {
          few = omega (arith, fit.few, same_length _ _ ids);
          version_low = omega arith;
          version_high = omega arith;
          next_low = next_low;
          next_high = next_high;
          entry = All-append (IsEntry next_id (version + 1)) (take start entries) _
              (All-take (IsEntry next_id (version + 1)) start entries all)
              (All-append (IsEntry next_id (version + 1)) _ (drop end entries)
              (with_new_stamp next_id (version + 1) (version + 1) (omega arith) (slice_range entries start end)
              (All-take (IsEntry next_id (version + 1)) (end - start) (drop start entries)
              (All-drop (IsEntry next_id (version + 1)) start entries all))) (All-drop (IsEntry next_id (version + 1)) end entries all));
          own_ids = own_ids-same _ entries ids fit.own_ids;
        }

-- entries in another order, of which the first ones are taken out
pub fit-reordered : (next_id version : ℕ) (entries gone left : List Entry) → AreFit next_id version entries
    → IsPermutation entries (gone ++ left) → AreFit next_id version left
fit-reordered next_id version entries gone left fit moved =
    let all = All-permutation (IsEntry next_id version) entries (gone ++ left) moved fit.entry in
    record {
      few = omega (arith, fit.few, length_permutation entries (gone ++ left) moved, length-append gone left);
      entry = λ k d within. let at = all (length gone + k) d (omega (arith, length-append gone left)) in subst (IsEntry next_id version)
          (get_or-append-add gone left k d) at;
      own_ids = own_ids-back gone left (own_ids-permutation entries (gone ++ left) moved fit.own_ids);
    }

pub fit-queue : (q : QueueState) → IsQueue q → AreFit q.next_id q.version q.entries
fit-queue q sound = record { few = sound.few; entry = sound.entry; own_ids = sound.own_ids }

-- a block is taken out
pub fit-deleted : (q : QueueState) → IsQueue q → (start end : ℕ) → start ≤ end → AreFit q.next_id q.version (deleted q.entries start end)
fit-deleted q sound start end forward =
    let front = take start q.entries in
    let middle = slice_range q.entries start end in
    let back = drop end q.entries in
    let parts : q.entries ≡ (front ++ middle) ++ back = split_between q.entries start end forward ∙ sym (append_assoc front middle back) in
    let turned : IsPermutation ((front ++ middle) ++ back) ((middle ++ front) ++ back) =
    IsPermutation-append_left back _ _ (IsPermutation-append_comm front middle) in
    fit-reordered q.next_id q.version q.entries middle (front ++ back) (fit-queue q sound)
    (subst (IsPermutation q.entries) (append_assoc middle front back) (rw (← parts) at turned))

-- the queue after an edit of the entries from one position on
pub sound-tail : (q : QueueState) (next_id start : ℕ) (afters : List Entry) → IsQueue q → AreFit next_id q.version afters → 1 ≤ next_id
    → next_id ≤ MAX_ID + 1 → start ≤ length afters
    → IsQueue (record { entries = restamped q.version start (length afters) afters; version = next_version q.version; next_id = next_id })
sound-tail q next_id start afters sound fit low high within =
    sound-restamped next_id q.version start (length afters) afters sound.version_low sound.version_high low high fit within

pub sound-deleted : (q : QueueState) → IsQueue q → (start end : ℕ) → start ≤ end → end ≤ length q.entries
    → IsQueue (record {
      entries = restamped q.version start (length (deleted q.entries start end)) (deleted q.entries start end);
      version =
          next_version q.version;
      next_id = q.next_id;
    })
sound-deleted q sound start end forward within =
    sound-tail q q.next_id start (deleted q.entries start end) sound (fit-deleted q sound start end forward) sound.next_low sound.next_high
    (omega (arith, length-append (take start q.entries) (drop end q.entries), length-take-le start q.entries (omega arith)))
