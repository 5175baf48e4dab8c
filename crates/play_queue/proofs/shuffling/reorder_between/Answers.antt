use Rattle.std.proofs.Common.{length, slice_range, ap, ◌∙◌, arith}
use Rattle.std.proofs.lemmas.List.{length-map}
use Rattle.std.proofs.lemmas.List.Edits.{length-between}
use Rattle.std.proofs.lemmas.List.Sorted.{length_permutation}
use Rattle.play_queue.specs.declared.entry.Entry.{Entry}
use Rattle.play_queue.specs.Shuffle.{shuffled, stamps_of}
use Rattle.play_queue.proofs.Moved.{shuffled-permutes}
use Rattle.play_queue.proofs.Settled.{anew-made}
use Rattle.play_queue.proofs.Shuffled.{own_ids-block}
use Rattle.play_queue.proofs.Stamped.{length-with_stamps}
use Rattle.play_queue.proofs.shuffling.reorder_between.Goals as goal

pub stamp_moved-requires-clause-in_range : goal.stamp_moved-requires-clause-in_range
stamp_moved-requires-clause-in_range c =
    let old = c.args.entries.now in
    let moved = shuffled-permutes old c.args.start c.args.end c.args.words.now c.requires.forward c.requires.in_range c.requires.words in
    omega (
      arith,
      c.requires.in_range,
      ap length c.in_ok-sort.ensures.ok,
      length-with_stamps (stamps_of old) (shuffled old c.args.start c.args.end c.args.words.now),
      length_permutation old (shuffled old c.args.start c.args.end c.args.words.now) moved,
    )

pub stamp_moved-requires-clause-ids : goal.stamp_moved-requires-clause-ids
stamp_moved-requires-clause-ids c =
    let old = c.args.entries.now in
    ap length c.requires.ids ∙ length-map (slice_range old c.args.start c.args.end) (λ (entry : Entry). entry.id)
    ∙ length-between old c.args.start c.args.end c.requires.in_range

pub returns-clause-ok : goal.returns-clause-ok
returns-clause-ok c =
    let old = c.args.entries.now in
    let own = own_ids-block old c.args.start c.args.end c.requires.forward c.requires.own_ids in
    rw (c.stamp_moved.ensures, c.requires.ids)
    (anew-made old c.args.start c.args.end c.args.words.now c.args.stamp own c.requires.forward c.requires.in_range c.requires.words
    c.sort.new.self c.in_ok-sort.ensures.ok)
