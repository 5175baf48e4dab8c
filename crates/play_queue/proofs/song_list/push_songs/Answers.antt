use Rattle.std.proofs.Common.{◌≡◌, ◌∷◌, [], ◌++◌, ◌+◌, None, length, ap, ◌∙◌, append_assoc, arith}
use Rattle.std.specs.Vec.Iter.{into_iter_items}
use Rattle.std.proofs.lemmas.List.{length-append}
use Rattle.play_queue.specs.Songs.{song_of}
use Rattle.play_queue.proofs.InOrder.{in_order-more, entries-more, step_entries, none_later}
use Rattle.play_queue.proofs.Tops.{tops-with}
use Rattle.play_queue.proofs.song_list.push_songs.Goals as goal

-- one more URI has its song
pub loop-uri-preserved : goal.loop-uri-preserved
loop-uri-preserved c =
    let at = c.loop-uri in
    let uri = c.in-Some.uri in
    let songs = at.songs.entries in
    let order = at.order.items in
    let steps : into_iter_items at.uri-iterator ≡ uri ∷ into_iter_items c.next.new.self = c.in-Some.ensures.steps.0 in
    let more : length (at.yielded ++ uri ∷ []) ≡ length at.yielded + 1 = length-append at.yielded (uri ∷ []) in
    let short = ap length steps in
    let none : song_of songs at.id ≡ None = at.invariant.5 at.id (omega arith) in
    let long : length c.push_song.new.order.items ≡ length order + 1 =
    ap length c.push_song.ensures.order ∙ length-append order (at.id ∷ []) in (
      (tt, tt),
      omega arith,
      append_assoc at.yielded (uri ∷ []) _ ∙ rw (← steps) at.invariant.2,
      rw (c.push_song.ensures.order)
          (in_order-more songs c.push_song.new.songs.entries order at.id c.new.result at.invariant.3 none c.push_song.ensures.songs),
      rw (c.push_song.ensures.order)
          (entries-more songs c.push_song.new.songs.entries order at.id c.new.result at.invariant.3 none c.push_song.ensures.songs
          ∙ step_entries _ _ c.args.first at.yielded uri at.id c.new.result at.invariant.4 at.invariant.1 c.new.ensures.uri
          c.new.ensures.priority),
      none_later songs c.push_song.new.songs.entries at.id c.new.result c.push_song.ensures.songs at.invariant.5,
      omega (arith, c.push_song.ensures.near, at.invariant.6),
      omega (arith, c.push_song.ensures.spare_songs, at.invariant.7),
      omega (arith, long, c.push_song.ensures.spare_ids, at.invariant.8),
      omega (arith, c.push_song.ensures.near, c.push_song.ensures.spare_places, at.invariant.9),
      omega (arith, long, at.invariant.10),
      omega (arith, long, at.invariant.11),
      λ top all. tops-with songs c.push_song.new.songs.entries top top at.id c.new.result (at.invariant.12 top all) (omega arith)
          (rw (c.new.ensures.priority) (omega arith)) c.push_song.ensures.songs,
    )
