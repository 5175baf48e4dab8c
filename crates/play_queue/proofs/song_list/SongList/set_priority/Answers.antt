use Rattle.std.proofs.Common.{◌≡◌, ◌<◌, length, get_or, Some, refl, ◌∙◌, arith}
use Rattle.std.proofs.lemmas.List.{length-map, get_or_default}
use Rattle.play_queue.specs.declared.song.Song.{Song}
use Rattle.play_queue.specs.Songs.{song_of, entry_of, in_order}
use Rattle.play_queue.proofs.InOrder.{song_at, in_order-prioritized, prioritized-at}
use Rattle.play_queue.proofs.Tops.{tops-with}
use Rattle.play_queue.proofs.song_list.SongList.set_priority.Goals as goal

pub invariant_of-self : goal.invariant_of-self
invariant_of-self c =
    let songs = c.self.inside.songs.entries in
    let order = c.self.inside.order.items in
    let long : length (in_order songs order) ≡ length order = length-map order (entry_of songs) in
    let within : c.args.at < length order = omega (arith, rw (← c.self.view_is) at c.requires, long) in
    let read : c.index.result.now ≡ get_or order c.args.at 0 = c.index.ensures ∙ get_or_default order c.args.at c.index.result.now 0 within in
    let found = song_at songs order c.args.at c.self.invariant.0 within in
    let there : song_of songs c.index.result.now ≡ Some found.0 = rw read found.1 in
    let changed : Song = record found.0 { priority = c.args.priority } in (
      in_order-prioritized songs c.prioritize.new.songs.entries order c.index.result.now found.0 changed c.self.invariant.0 there
          (λ id. c.prioritize.ensures found.0 id there),
      c.self.invariant.1,
      c.self.invariant.2,
      tops-with songs c.prioritize.new.songs.entries c.self.inside.top c.greater-top.result c.index.result.now changed c.self.invariant.3
          c.greater-top.ensures.first c.greater-top.ensures.second (λ id. c.prioritize.ensures found.0 id there),
    )

pub returns : goal.returns
returns c d =
    let songs = c.self.inside.songs.entries in
    let order = c.self.inside.order.items in
    let long : length (in_order songs order) ≡ length order = length-map order (entry_of songs) in
    let within : c.args.at < length order = omega (arith, rw (← c.self.view_is) at c.requires, long) in
    let read : c.index.result.now ≡ get_or order c.args.at 0 = c.index.ensures ∙ get_or_default order c.args.at c.index.result.now 0 within in
    let found = song_at songs order c.args.at c.self.invariant.0 within in
    let there : song_of songs c.index.result.now ≡ Some found.0 = rw read found.1 in
    let changed : Song = record found.0 { priority = c.args.priority } in
    rw (← c.self.view_is)
    (prioritized-at songs c.prioritize.new.songs.entries order c.args.at c.args.priority found.0 changed d c.self.invariant.0 within found.1
    refl refl (λ id. rw read at (c.prioritize.ensures found.0 id there)))
