use Rattle.std.proofs.Common.{◌≡◌, None, length, ◌+◌, ◌∷◌, [], ap, ◌∙◌, arith}
use Rattle.std.proofs.lemmas.List.{length-append, length-map}
use Rattle.play_queue.specs.Songs.{AreInOrder, song_of, entry_of, in_order}
use Rattle.play_queue.proofs.InOrder.{absent-other, in_order-more, entries-more}
use Rattle.play_queue.proofs.Tops.{tops-with}
use Rattle.play_queue.proofs.song_list.SongList.push.Goals as goal

pub invariant_of-self-2 : goal.invariant_of-self-2
invariant_of-self-2 c =
    let songs = c.reserve.new.self.entries in
    let order = c.reserve-2.new.self.items in
    let kept : AreInOrder songs order = rw (c.reserve.ensures.entries, c.reserve-2.ensures.items) (c.self.invariant.0) in
    let none : song_of songs c.args.id ≡ None =
    rw (c.reserve.ensures.entries) (absent-other c.self.inside.songs.entries c.self.inside.order.items c.args.id c.self.invariant.0
    (rw (← c.self.view_is) at c.requires.fresh)) in
    let long : length c.push_song.new.order.items ≡ length order + 1 =
    ap length c.push_song.ensures.order ∙ length-append order (c.args.id ∷ []) in
    let count : length (in_order c.self.inside.songs.entries c.self.inside.order.items) ≡ length c.self.inside.order.items =
    length-map c.self.inside.order.items (entry_of c.self.inside.songs.entries) in (
      rw (c.push_song.ensures.order)
          (in_order-more songs c.push_song.new.songs.entries order c.args.id c.new.result kept none c.push_song.ensures.songs),
      omega (arith, long, c.push_song.ensures.near, c.reserve-2.ensures.len, c.reserve-3.ensures.len, c.self.invariant.1),
      omega (arith, long, c.reserve-2.ensures.len, count, rw (← c.self.view_is) at c.requires.few),
      tops-with songs c.push_song.new.songs.entries c.self.inside.top c.greater-top.result c.args.id c.new.result
          (rw (c.reserve.ensures.entries) c.self.invariant.3) c.greater-top.ensures.first (rw (c.new.ensures.priority) c.greater-top.ensures.second)
          c.push_song.ensures.songs,
    )

pub returns-clause-ok : goal.returns-clause-ok
returns-clause-ok c =
    let songs = c.reserve.new.self.entries in
    let order = c.reserve-2.new.self.items in
    let kept : AreInOrder songs order = rw (c.reserve.ensures.entries, c.reserve-2.ensures.items) (c.self.invariant.0) in
    let none : song_of songs c.args.id ≡ None =
    rw (c.reserve.ensures.entries) (absent-other c.self.inside.songs.entries c.self.inside.order.items c.args.id c.self.invariant.0
    (rw (← c.self.view_is) at c.requires.fresh)) in
    let made = entries-more songs c.push_song.new.songs.entries order c.args.id c.new.result kept none c.push_song.ensures.songs in
    rw (← c.self.view_is, c.push_song.ensures.order, c.reserve-2.ensures.items)
    (rw (c.reserve.ensures.entries, c.reserve-2.ensures.items, c.new.ensures.uri, c.new.ensures.priority) at made)
