use Rattle.std.proofs.Common.{◌≤◌, ◌≡◌, length, take, drop, refl, ap, ◌∙◌, arith}
use Rattle.std.proofs.lemmas.List.{length-append, length-take-le}
use Rattle.play_queue.specs.Entries.{kept}
use Rattle.play_queue.specs.Shuffle.{stamps_of}
use Rattle.play_queue.proofs.Bounds.{list-batch, short-batch}
use Rattle.play_queue.proofs.Stamped.{length-with_stamps, kept_from, restamped-kept}
use Rattle.play_queue.proofs.entry_list.EntryList.follow_batch.Goals as goal

pub restamp_batch-requires-clause-in_range : goal.restamp_batch-requires-clause-in_range
restamp_batch-requires-clause-in_range c =
    let old = c.self.inside.entries in
    let within : c.args.first ≤ length old = rw (← c.self.view_is) at c.requires.in_range in
    omega (
      arith,
      ap length c.keep_others.ensures,
      length-with_stamps (stamps_of old) (kept_from c.args.first c.args.dropped.now old),
      length-append (take c.args.first old) (kept (drop c.args.first old) c.args.dropped.now),
      length-take-le c.args.first old within,
    )

pub restamp_batch-requires-clause-few : goal.restamp_batch-requires-clause-few
restamp_batch-requires-clause-few c =
    let old = c.self.inside.entries in
    let within : c.args.first ≤ length old = rw (← c.self.view_is) at c.requires.in_range in
    omega (
      arith,
      ap length c.keep_others.ensures,
      length-with_stamps (stamps_of old) (kept_from c.args.first c.args.dropped.now old),
      short-batch c.args.first old c.args.dropped.now within,
      c.self.invariant.0,
    )

pub invariant_of-self : goal.invariant_of-self
invariant_of-self c =
    let old = c.self.inside.entries in
    let within : c.args.first ≤ length old = rw (← c.self.view_is) at c.requires.in_range in
    let long : length c.keep_others.new.self ≡ length (kept_from c.args.first c.args.dropped.now old) =
    ap length c.keep_others.ensures ∙ length-with_stamps (stamps_of old) (kept_from c.args.first c.args.dropped.now old) in
    rw (
      c.restamp_batch.ensures.entries,
      c.keep_others.ensures,
      restamped-kept c.args.version c.args.first c.args.dropped.now c.args.changed.now old within,
    )
    (list-batch c.self.inside.latest c.restamp_batch.new.latest c.args.version c.args.first old c.args.dropped.now c.args.changed.now
    within c.self.invariant (rw long at c.restamp_batch.ensures.latest))

pub returns-clause-entries : goal.returns-clause-entries
returns-clause-entries c =
    let old = c.self.inside.entries in
    let within : c.args.first ≤ length old = rw (← c.self.view_is) at c.requires.in_range in
    rw (
      ← c.self.view_is,
      c.restamp_batch.ensures.entries,
      c.keep_others.ensures,
      restamped-kept c.args.version c.args.first c.args.dropped.now c.args.changed.now old within,
    ) refl
