use Rattle.std.proofs.Common.{◌≤◌, length, ap, ◌∙◌, sym, arith}
use Rattle.std.proofs.lemmas.List.{length-map}
use Rattle.std.proofs.lemmas.List.Sorted.{length_permutation}
use Rattle.play_queue.specs.declared.entry.Entry.{Entry}
use Rattle.play_queue.specs.Shuffle.{shuffled}
use Rattle.play_queue.proofs.Moved.{shuffled-permutes}
use Rattle.play_queue.proofs.Stamped.{length-with_stamps, order-shuffled}
use Rattle.play_queue.proofs.entries.Entries.sort.Goals as goal

pub sort-requires-clause-in_range : goal.sort-requires-clause-in_range
sort-requires-clause-in_range c =
    omega (arith, rw (← c.self.view_is) at c.requires.in_range, length-with_stamps c.self.inside.stamps.items c.self.inside.songs)

pub note-requires-clause-in_range : goal.note-requires-clause-in_range
note-requires-clause-in_range c =
    let songs = c.self.inside.songs in
    let within : c.args.end ≤ length songs =
    omega (arith, rw (← c.self.view_is) at c.requires.in_range, length-with_stamps c.self.inside.stamps.items songs) in
    let moved = shuffled-permutes songs c.args.start c.args.end c.args.words.now c.requires.forward within c.requires.words in
    let as_many = length_permutation songs (shuffled songs c.args.start c.args.end c.args.words.now) moved in
    omega (
      arith,
      ap length c.ids.ensures.ids,
      length-map c.sort.new.self (λ (entry : Entry). entry.id),
      ap length c.in_ok-sort.ensures.ok,
      as_many,
    )

pub invariant_of-self-2 : goal.invariant_of-self-2
invariant_of-self-2 c =
    let songs = c.self.inside.songs in
    let within : c.args.end ≤ length songs =
    omega (arith, rw (← c.self.view_is) at c.requires.in_range, length-with_stamps c.self.inside.stamps.items songs) in
    let moved = shuffled-permutes songs c.args.start c.args.end c.args.words.now c.requires.forward within c.requires.words in
    c.self.invariant ∙ sym (length_permutation songs (shuffled songs c.args.start c.args.end c.args.words.now) moved)
    ∙ sym (ap length c.in_ok-sort.ensures.ok)

pub returns-clause-ok : goal.returns-clause-ok
returns-clause-ok c =
    let stamps = c.self.inside.stamps.items in
    let songs = c.self.inside.songs in
    let within : c.args.end ≤ length songs =
    omega (arith, rw (← c.self.view_is) at c.requires.in_range, length-with_stamps stamps songs) in
    let moved = shuffled-permutes songs c.args.start c.args.end c.args.words.now c.requires.forward within c.requires.words in
    let as_many = length_permutation songs (shuffled songs c.args.start c.args.end c.args.words.now) moved in
    rw (← c.self.view_is, c.in_ok-sort.ensures.ok)
    (order-shuffled stamps songs c.args.start c.args.end c.args.words.now c.self.invariant as_many)
