use Rattle.std.proofs.Common.{List, length, ap, arith}
use Rattle.std.proofs.lemmas.List.{length-append}
use Rattle.play_queue.specs.Queue.{QueueState}
use Rattle.profile.specs.declared.profile.Profile.{Profile}
use Rattle.song_db.specs.Row.{Row}
use Rattle.stickers.specs.Sticker.{Sticker}
use Rattle.stored_lists.specs.Lists.{Stored}
use Rattle.state_codec.specs.Spelling.{entry_bytes, playlist_bytes, sticker_bytes, head_bytes}
use Rattle.state_codec.specs.SpellingFields.{list_bytes}
use Rattle.state_codec.specs.SpellingRows.{row_bytes}
use Rattle.state_codec.proofs.LengthLaws.{list_len}
use Rattle.state_codec.proofs.SnapshotLaws.{parts_len, thirteen_each}
use Rattle.state_codec.proofs.writing.put_parts.Goals as goal

pub put_queue-requires-clause-room : goal.put_queue-requires-clause-room
put_queue-requires-clause-room c =
    let s = c.args.saved.now in
    let parts = parts_len s c.key-key.ensures.kept in
    let rows = list_bytes (row_bytes c.profile.result) c.songs.result.now in
    omega (
      arith,
      c.requires,
      parts.rows,
      parts.entries,
      parts.whole,
      ap (λ (p : Profile). length (list_bytes (row_bytes p) c.songs.result.now)) c.profile.ensures,
      ap (λ (songs : List Row). length (list_bytes (row_bytes s.profile) songs)) c.songs.ensures,
      ap (λ (queue : QueueState). length queue.entries) c.queue.ensures,
      c.put_head.ensures.capacity,
      c.put_songs.ensures.capacity,
      ap length c.put_head.ensures.items,
      length-append c.args.out.now.items (head_bytes s),
      ap length c.put_songs.ensures.items,
      length-append c.put_head.new.out.items rows,
      c.args.out.now.ok.0,
      c.put_songs.new.out.ok.0,
    )

pub put_stickers-requires : goal.put_stickers-requires
put_stickers-requires c =
    let s = c.args.saved.now in
    let parts = parts_len s c.key-key.ensures.kept in
    let rows = list_bytes (row_bytes c.profile.result) c.songs.result.now in
    let entries = list_bytes (entry_bytes c.songs-2.result.now) c.queue.result.now.entries in
    let lists = list_bytes playlist_bytes c.lists.result.now in
    omega (
      arith,
      c.requires,
      parts.whole,
      ap (λ (p : Profile). length (list_bytes (row_bytes p) c.songs.result.now)) c.profile.ensures,
      ap (λ (songs : List Row). length (list_bytes (row_bytes s.profile) songs)) c.songs.ensures,
      parts.entries,
      list_len (entry_bytes c.songs-2.result.now) c.queue.result.now.entries,
      thirteen_each c.songs-2.result.now c.queue.result.now.entries,
      ap (λ (queue : QueueState). length queue.entries) c.queue.ensures,
      ap (λ (lists : Stored). length (list_bytes playlist_bytes lists)) c.lists.ensures,
      ap (λ (stickers : List Sticker). length (list_bytes sticker_bytes stickers)) c.stickers.ensures,
      c.put_head.ensures.capacity,
      c.put_songs.ensures.capacity,
      c.put_queue.ensures.capacity,
      c.put_lists.ensures.capacity,
      ap length c.put_head.ensures.items,
      length-append c.args.out.now.items (head_bytes s),
      ap length c.put_songs.ensures.items,
      length-append c.put_head.new.out.items rows,
      ap length c.put_queue.ensures.items,
      length-append c.put_songs.new.out.items entries,
      ap length c.put_lists.ensures.items,
      length-append c.put_queue.new.out.items lists,
      c.args.out.now.ok.0,
      c.put_lists.new.out.ok.0,
    )
