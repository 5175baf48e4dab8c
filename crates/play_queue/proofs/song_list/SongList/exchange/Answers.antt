use Rattle.std.proofs.Common.{sym, arith}
use Rattle.std.proofs.lemmas.List.Sorted.{length_permutation}
use Rattle.play_queue.specs.Restamp.{exchanged}
use Rattle.play_queue.specs.Songs.{entry_of}
use Rattle.play_queue.proofs.InOrder.{exchanged-map, exchanged-permutes, in_order-permuted}
use Rattle.play_queue.proofs.song_list.SongList.exchange.Goals as goal

pub invariant_of-self : goal.invariant_of-self
invariant_of-self c =
    let order = c.self.inside.order.items in
    let near = c.self.inside.near.items in
    let moved = exchanged-permutes order c.args.low c.args.middle c.args.high c.requires.low_block c.requires.high_block in
    let also = exchanged-permutes near c.args.low c.args.middle c.args.high c.requires.low_block c.requires.high_block in
    let long = length_permutation order (exchanged order c.args.low c.args.middle c.args.high) moved in
    let as_long = length_permutation near (exchanged near c.args.low c.args.middle c.args.high) also in
    rw (c.turn.ensures, c.turn-2.ensures) (
      in_order-permuted c.self.inside.songs.entries order (exchanged order c.args.low c.args.middle c.args.high) moved c.self.invariant.0,
      omega (arith, long, as_long, c.self.invariant.1),
      omega (arith, long, c.self.invariant.2),
      c.self.invariant.3,
    )

pub returns : goal.returns
returns c =
    let inside = c.self.inside in
    rw (← c.self.view_is, c.turn.ensures)
    (sym (exchanged-map (entry_of inside.songs.entries) inside.order.items c.args.low c.args.middle c.args.high))
