use Rattle.std.proofs.Common.{◌≡◌, length, arith}
use Rattle.std.proofs.lemmas.List.{length-map}
use Rattle.play_queue.specs.Songs.{entry_of, in_order}
use Rattle.play_queue.proofs.InOrder.{absent-new}
use Rattle.play_queue.proofs.song_list.SongList.push_all.Goals as goal

pub push_songs-requires-clause-fresh : goal.push_songs-requires-clause-fresh
push_songs-requires-clause-fresh c id above =
    rw (c.reserve.ensures.entries)
    (absent-new c.self.inside.songs.entries c.self.inside.order.items c.args.first id c.self.invariant.0
    (rw (← c.self.view_is) at c.requires.fresh) above)

pub invariant_of-self-2 : goal.invariant_of-self-2
invariant_of-self-2 c =
    let count : length (in_order c.self.inside.songs.entries c.self.inside.order.items) ≡ length c.self.inside.order.items =
    length-map c.self.inside.order.items (entry_of c.self.inside.songs.entries) in (
      c.push_songs.ensures.kept,
      omega (arith, c.push_songs.ensures.len, c.push_songs.ensures.near, c.reserve-2.ensures.len, c.reserve-3.ensures.len, c.self.invariant.1),
      omega (arith, c.push_songs.ensures.len, c.reserve-2.ensures.len, count, rw (← c.self.view_is) at c.requires.few),
      c.push_songs.ensures.top c.self.inside.top (rw (c.reserve.ensures.entries) c.self.invariant.3),
    )
