use Rattle.std.proofs.Common.{◌≡◌, ◌<◌, length, refl, sym, arith}
use Rattle.std.proofs.lemmas.List.{length-map}
use Rattle.std.proofs.lemmas.List.Edits.{length-swap}
use Rattle.std.proofs.lemmas.List.Sorted.{IsPermutation-swap}
use Rattle.play_queue.specs.Songs.{entry_of, in_order}
use Rattle.play_queue.proofs.InOrder.{swap-map, in_order-permuted}
use Rattle.play_queue.proofs.song_list.SongList.swap.Goals as goal

pub invariant_of-self : goal.invariant_of-self
invariant_of-self c =
    let order = c.self.inside.order.items in
    let near = c.self.inside.near.items in
    let long : length (in_order c.self.inside.songs.entries order) ≡ length order = length-map order (entry_of c.self.inside.songs.entries) in
    let in_one : c.args.one < length order = omega (arith, rw (← c.self.view_is) at c.requires.one_in_range, long) in
    let in_other : c.args.other < length order = omega (arith, rw (← c.self.view_is) at c.requires.other_in_range, long) in
    rw (c.swap.ensures.items, c.swap-2.ensures.items) (
      in_order-permuted c.self.inside.songs.entries order _ (IsPermutation-swap order _ c.args.one c.args.other in_one in_other refl)
          c.self.invariant.0,
      omega (arith, length-swap order c.args.one c.args.other, length-swap near c.args.one c.args.other, c.self.invariant.1),
      omega (arith, length-swap order c.args.one c.args.other, c.self.invariant.2),
      c.self.invariant.3,
    )

pub returns : goal.returns
returns c =
    let order = c.self.inside.order.items in
    let long : length (in_order c.self.inside.songs.entries order) ≡ length order = length-map order (entry_of c.self.inside.songs.entries) in
    let in_one : c.args.one < length order = omega (arith, rw (← c.self.view_is) at c.requires.one_in_range, long) in
    let in_other : c.args.other < length order = omega (arith, rw (← c.self.view_is) at c.requires.other_in_range, long) in
    rw (← c.self.view_is, c.swap.ensures.items)
    (sym (swap-map (entry_of c.self.inside.songs.entries) order c.args.one c.args.other in_one in_other))
