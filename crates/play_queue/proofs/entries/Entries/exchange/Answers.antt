use Rattle.std.proofs.Common.{length, ap, arith}
use Rattle.std.proofs.lemmas.List.{length-map}
use Rattle.std.proofs.lemmas.List.Sorted.{length_permutation}
use Rattle.play_queue.specs.declared.entry.Entry.{Entry}
use Rattle.play_queue.specs.Restamp.{exchanged}
use Rattle.play_queue.proofs.InOrder.{exchanged-permutes}
use Rattle.play_queue.proofs.Stamped.{length-with_stamps, order-exchanged}
use Rattle.play_queue.proofs.entries.Entries.exchange.Goals as goal

pub exchange-requires-clause-in_range : goal.exchange-requires-clause-in_range
exchange-requires-clause-in_range c =
    omega (arith, rw (← c.self.view_is) at c.requires.in_range, length-with_stamps c.self.inside.stamps.items c.self.inside.songs)

pub exchange-requires-2-clause-in_range : goal.exchange-requires-2-clause-in_range
exchange-requires-2-clause-in_range c =
    let songs = c.self.inside.songs in
    let moved = exchanged-permutes songs c.args.low c.args.middle c.args.high c.requires.low_block c.requires.high_block in
    omega (
      arith,
      rw (← c.self.view_is) at c.requires.in_range,
      length-with_stamps c.self.inside.stamps.items songs,
      ap length c.ids.ensures.ids,
      length-map c.exchange.new.self (λ (entry : Entry). entry.id),
      ap length c.exchange.ensures,
      length_permutation songs (exchanged songs c.args.low c.args.middle c.args.high) moved,
    )

pub returns : goal.returns
returns c =
    rw (← c.self.view_is, c.exchange.ensures)
    (order-exchanged c.self.inside.stamps.items c.self.inside.songs c.args.low c.args.middle c.args.high c.self.invariant
    c.requires.low_block c.requires.high_block)
