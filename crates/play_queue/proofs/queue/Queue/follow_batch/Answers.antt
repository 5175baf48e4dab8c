use Rattle.std.proofs.Common.{◌≡◌, ◌⊎◌, inl, inr, ◌<◌, true, false, not, [], ◌++◌, take, drop, length, sym, ◌∙◌, subst, arith}
use Rattle.std.specs.List.{list_any, prefix_len}
use Rattle.std.proofs.lemmas.List.{take_all}
use Rattle.play_queue.specs.declared.entry.Entry.{Entry}
use Rattle.play_queue.specs.Entries.{is_among, kept}
use Rattle.play_queue.specs.Queue.{IsQueue, QueueState}
use Rattle.play_queue.proofs.Kept.{kept_front, prefix_len-is, ruled-batch, ruled-batch_same, sound-ruled, fit-kept, front_fits}
use Rattle.play_queue.proofs.Kept.{kept-none, before_dropped}
use Rattle.play_queue.proofs.Ruling.{ruled-itself}
use Rattle.play_queue.proofs.queue.Queue.follow_batch.Goals as goal
use Rattle.play_queue.proofs.queue.Queue.follow_batch.Goals.{then-first-len-via-then-first-len}
use Rattle.play_queue.proofs.queue.Queue.follow_batch.Goals.{then-first-len-via-else-first-len+then-has_any}

pub follow_batch-self-inside-requires-clause-in_range : goal.follow_batch-self-inside-requires-clause-in_range
follow_batch-self-inside-requires-clause-in_range c =
    let keep = λ (entry : Entry). not (is_among c.args.dropped.now entry.uri) in
    let found : c.before_first-first.result ≡ prefix_len keep c.self.inside.entries =
    rw (c.entries.ensures) at c.before_first-first.ensures in
    omega (arith, found, prefix_len-is keep c.self.inside.entries, front_fits keep c.self.inside.entries)

pub has_any-requires : goal.has_any-requires
has_any-requires c =
    let keep = λ (entry : Entry). not (is_among c.args.dropped.now entry.uri) in
    let found : c.before_first-first.result ≡ prefix_len keep c.self.inside.entries =
    rw (c.entries.ensures) at c.before_first-first.ensures in
    rw (c.entries-else-first-len.ensures)
    (omega (arith, found, prefix_len-is keep c.self.inside.entries, front_fits keep c.self.inside.entries))

pub returns-then-first-len : goal.returns-then-first-len
returns-then-first-len c =
    let q : QueueState = record {
      entries = c.self.inside.entries;
      version = c.self.inside.version;
      next_id =
          c.self.inside.next_id;
    } in
    let keep = λ (entry : Entry). not (is_among c.args.dropped.now entry.uri) in
    let found : c.before_first-first.result ≡ prefix_len keep c.self.inside.entries =
    rw (c.entries.ensures) at c.before_first-first.ensures in
    let first : c.before_first-first.result ≡ kept_front keep c.self.inside.entries =
    found ∙ prefix_len-is keep c.self.inside.entries in
    let others : take c.before_first-first.result q.entries ++ kept (drop c.before_first-first.result q.entries) c.args.dropped.now
    ≡ kept q.entries c.args.dropped.now = rw first (sym (before_dropped keep q.entries)) in
    let some : (c.before_first-first.result < length q.entries)
    ⊎ (list_any (λ entry. is_among c.args.changed.now entry.uri) (take c.before_first-first.result q.entries) ≡ true) =
    elim c.then-first-len.branch [
      | then-first-len-via-then-first-len w ↦ inl (omega arith)
      | then-first-len-via-else-first-len+then-has_any w ↦ inr
          (rw (w.entries-else-first-len.ensures) at (sym w.has_any.ensures ∙ w.if-has_any.true))
    ] in
    rw (← c.self.view_is, c.follow_batch-self-inside.ensures.entries, c.follow_batch-self-inside.ensures.version, others)
    (ruled-batch q c.args.dropped.now c.args.changed.now c.before_first-first.result c.self.invariant.own_ids first some)

pub invariant_of-self : goal.invariant_of-self
invariant_of-self c =
    let q : QueueState = record {
      entries = c.self.inside.entries;
      version = c.self.inside.version;
      next_id =
          c.self.inside.next_id;
    } in
    let keep = λ (entry : Entry). not (is_among c.args.dropped.now entry.uri) in
    let found : c.before_first-first.result ≡ prefix_len keep c.self.inside.entries =
    rw (c.entries.ensures) at c.before_first-first.ensures in
    let first : c.before_first-first.result ≡ kept_front keep c.self.inside.entries =
    found ∙ prefix_len-is keep c.self.inside.entries in
    let others : take c.before_first-first.result q.entries ++ kept (drop c.before_first-first.result q.entries) c.args.dropped.now
    ≡ kept q.entries c.args.dropped.now = rw first (sym (before_dropped keep q.entries)) in
    let some : (c.before_first-first.result < length q.entries)
    ⊎ (list_any (λ entry. is_among c.args.changed.now entry.uri) (take c.before_first-first.result q.entries) ≡ true) =
    elim c.then-first-len.branch [
      | then-first-len-via-then-first-len w ↦ inl (omega arith)
      | then-first-len-via-else-first-len+then-has_any w ↦ inr
          (rw (w.entries-else-first-len.ensures) at (sym w.has_any.ensures ∙ w.if-has_any.true))
    ] in
    let made = ruled-batch q c.args.dropped.now c.args.changed.now c.before_first-first.result c.self.invariant.own_ids first some in
    rw (c.follow_batch-self-inside.ensures.entries, c.follow_batch-self-inside.ensures.version, others)
    (subst IsQueue (sym made) (sound-ruled q (kept q.entries c.args.dropped.now) c.args.changed.now c.self.invariant
    (fit-kept q c.args.dropped.now c.self.invariant)))

pub returns-else-has_any : goal.returns-else-has_any
returns-else-has_any c =
    let q : QueueState = record {
      entries = c.self.inside.entries;
      version = c.self.inside.version;
      next_id =
          c.self.inside.next_id;
    } in
    let keep = λ (entry : Entry). not (is_among c.args.dropped.now entry.uri) in
    let found : c.before_first-first.result ≡ prefix_len keep c.self.inside.entries =
    rw (c.entries.ensures) at c.before_first-first.ensures in
    let first : c.before_first-first.result ≡ kept_front keep c.self.inside.entries =
    found ∙ prefix_len-is keep c.self.inside.entries in
    let all : kept_front keep q.entries ≡ length q.entries = omega (arith, front_fits keep q.entries) in
    let row : list_any (λ entry. is_among c.args.changed.now entry.uri) (take c.before_first-first.result q.entries) ≡ false =
    rw (c.entries-else-first-len.ensures) at (sym c.has_any.ensures ∙ c.if-has_any.false) in
    let none : list_any (λ entry. is_among c.args.changed.now entry.uri) q.entries ≡ false =
    rw (first, all, take_all (length q.entries) q.entries (omega arith)) at row in
    rw (← c.self.view_is) (sym (ruled-batch_same q c.args.dropped.now c.args.changed.now all none))

-- where the batch has no URI
pub returns-then-is_empty-2 : goal.returns-then-is_empty-2
returns-then-is_empty-2 c =
    let none : c.args.dropped.now ≡ [] = c.is_empty.ensures.0 c.if-is_empty.true in
    let same : c.args.changed.now ≡ [] = c.is_empty-then-is_empty.ensures.0 c.if-is_empty-2.true in
    rw (none, same) (sym (ruled-itself c.args.self.now _ (kept-none c.args.self.now.entries)))
