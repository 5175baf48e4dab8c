-- A queue to which one more entry is added at the end, with the stamp that it has.
use Rattle.std.proofs.Common.{◌≡◌, ◌≢◌, ℕ, ◌<◌, ◌≤◌, Bool, true, false, cond, eqb, ◌==◌, ◌||◌, List, [], ◌∷◌, ◌++◌, length, get_or, refl}
use Rattle.std.proofs.Common.{sym, ap, ◌∙◌, arith}
use Rattle.std.proofs.lemmas.Bool.{eq-eqb}
use Rattle.std.proofs.lemmas.List.{length-append, length-map, map-append, get_or-map}
use Rattle.std.proofs.lemmas.List.Elements.{All-push}
use Rattle.std.proofs.lemmas.List.Folds.{list_any_at, list_any-append}
use Rattle.std.proofs.lemmas.List.Quantifiers.{all_pairs_push}
use Rattle.play_queue.specs.declared.entry.Entry.{Entry}
use Rattle.play_queue.specs.Builder.{has_id}
use Rattle.play_queue.specs.Limits.{MAX_ENTRIES}
use Rattle.play_queue.specs.Queue.{QueueState, IsQueue, IsEntry, ids_of}

or_false : (b : Bool) → (b || false) ≡ b
or_false true = refl
or_false false = refl

or_cond : (a b : Bool) → cond a true b ≡ (b || a)
or_cond true true = refl
or_cond true false = refl
or_cond false true = refl
or_cond false false = refl

-- the ids with one more
pub has_id-push : (entries : List Entry) (entry : Entry) (id : ℕ)
    → cond (eqb entry.id id) true (has_id entries id) ≡ has_id (entries ++ entry ∷ []) id
has_id-push entries entry id = or_cond (eqb entry.id id) (has_id entries id)
    ∙ sym (list_any-append (λ e. e.id == id) entries (entry ∷ []) ∙ ap (λ b. has_id entries id || b) (or_false (eqb entry.id id)))

apart : (entries : List Entry) (id k : ℕ) (d : ℕ) (e : Entry) → has_id entries id ≡ false → k < length (ids_of entries)
    → get_or (ids_of entries) k d ≢ id
apart entries id k d e none within same =
    let long : length (ids_of entries) ≡ length entries = length-map entries (λ entry. entry.id) in
    let read : get_or (ids_of entries) k d ≡ (get_or entries k e).id = get_or-map (λ entry. entry.id) entries k e d (omega arith) in
    let found : has_id entries id ≡ true =
    list_any_at (λ entry. entry.id == id) entries k e (omega arith) (eq-eqb (get_or entries k e).id id (sym read ∙ same)) in
    absurd (cc)

pub pushed : (q : QueueState) (entry : Entry) → IsQueue q → length q.entries < MAX_ENTRIES → 1 ≤ entry.id → entry.id < q.next_id
    → has_id q.entries entry.id ≡ false → 1 ≤ entry.stamp → entry.stamp ≤ q.version
    → IsQueue (record q { entries = q.entries ++ entry ∷ [] })
pushed q entry sound few id_low id_used new stamp_low stamp_high = record {
  few = omega (arith, length-append q.entries (entry ∷ []));
  version_low = sound.version_low;
  version_high = sound.version_high;
  next_low = sound.next_low;
  next_high = sound.next_high;
  entry = All-push (IsEntry q.next_id q.version) q.entries entry sound.entry
      (record { id_low = id_low; id_used = id_used; stamp_low = stamp_low; stamp_high = stamp_high });
  own_ids = rw (map-append (λ (e : Entry). e.id) q.entries (entry ∷ []))
      (all_pairs_push (λ one other. one ≢ other) (ids_of q.entries) entry.id sound.own_ids
      (λ k d within. apart q.entries entry.id k d entry new within));
}
