use Rattle.std.proofs.Common.{◌≡◌, ℕ, ◌+◌, ◌≤◌, ◌++◌, None, length, vec_len, vec_capacity}
use Rattle.std.specs.Vec.Iter.{into_iter_items}
use Rattle.indexmap.specs.IndexMap.{spare}
use Rattle.play_queue.specs.Entries.{new_entries}
use Rattle.play_queue.specs.Limits.{MAX_ENTRIES}
use Rattle.play_queue.specs.Songs.{AreInOrder, HaveNoMore, in_order, song_of, unstamped}
use Rattle.play_queue.proofs.song_list.push_songs.Given as goal

abbrev pub invariant-loop-uri : goal.invariant-loop-uri
invariant-loop-uri l = ((goal.iterator-loop-uri).can_next l.uri-iterator × (goal.iterator-loop-uri).is_finite l.uri-iterator)
    × (l.id ≡ l.first + length l.yielded)
    × (l.yielded ++ into_iter_items l.uri-iterator ≡ l.fn.uris.items)
    × AreInOrder l.songs.entries l.order.items
    × (in_order l.songs.entries l.order.items
    ≡ in_order l.initial.songs.entries l.initial.order.items ++ unstamped (new_entries l.first l.yielded))
    × ((id : ℕ) → l.id ≤ id → song_of l.songs.entries id ≡ None)
    × (length l.near.items ≡ length l.initial.near.items + length l.yielded)
    × (length (into_iter_items l.uri-iterator) ≤ spare l.songs)
    × (vec_len l.order + length (into_iter_items l.uri-iterator) ≤ vec_capacity l.order)
    × (vec_len l.near + length (into_iter_items l.uri-iterator) ≤ vec_capacity l.near)
    × (length l.order.items + length (into_iter_items l.uri-iterator) ≤ MAX_ENTRIES)
    × (length l.order.items ≡ length l.initial.order.items + length l.yielded)
    × ((top : ℕ) → HaveNoMore top l.initial.songs.entries → HaveNoMore top l.songs.entries)
