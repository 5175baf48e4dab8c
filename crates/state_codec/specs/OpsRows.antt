-- What a batch of the database does. Its changes are made in their order, each at its turn.
use Rattle.std.specs.Prelude.{Bool, true, not, List, filter, map, Option, Some, None, option_map, if◌then◌else◌}
use Rattle.std.specs.List.{list_any}
use Rattle.play_queue.specs.Entries.{Uris, is_among, kept}
use Rattle.play_queue.specs.Queue.{QueueState, ruled}
use Rattle.player_core.specs.Place.{place_left}
use Rattle.player_core.specs.declared.block.Block.{Block}
use Rattle.song_db.specs.Change.{after_batch}
use Rattle.song_db.specs.Effect.{effects_of, changes_a_row}
use Rattle.song_db.specs.Refusal.{refusal_of as batch_refusal}
use Rattle.song_db.specs.Row.{Row, row_uri, row_at}
use Rattle.song_db.specs.Same.{same_row}
use Rattle.song_db.specs.Scan.{drops_of}
use Rattle.song_db.specs.declared.change.RowChange.{RowChange}
use Rattle.song_db.specs.declared.refusal.SongDbError.TheVariants.{DbFull}
use Rattle.state_codec.specs.Changes.{are_kept}
use Rattle.state_codec.specs.SavedState.{SavedState}
use Rattle.state_codec.specs.declared.refusal.OpRefusal.{OpRefusal}
use Rattle.state_codec.specs.declared.refusal.OpRefusal.TheVariants.{Songs}
use Rattle.stickers.specs.Sticker.{Sticker}

-- refused where a row is put that has no place in what is saved under the profile, or else as it is otherwise
abbrev pub if_kept : Bool → Option OpRefusal → Option OpRefusal
if_kept kept refusal = if kept then refusal else Some (Songs DbFull)

-- what refuses it: a row that the profile doesn't keep, or that the database has no place for at its turn
abbrev pub rows_refusal : List RowChange → SavedState → Option OpRefusal
rows_refusal changes s = if_kept (are_kept s.profile changes) (option_map Songs (batch_refusal (effects_of s.songs changes)))

-- the row of a URI isn't this one
abbrev pub is_other : Row → Option Row → Bool
is_other row None = true
is_other row (Some other) = not (same_row row other)

-- the URIs of the rows before that aren't the same afterwards
abbrev pub changed_uris : List Row → List Row → Uris
changed_uris before after = map row_uri (filter (λ row. is_other row (row_at after row.uri)) before)

-- the stickers of these songs go
abbrev pub without_songs : List Sticker → Uris → List Sticker
without_songs all uris = filter (λ sticker. not (is_among uris sticker.uri)) all

-- entries of dropped songs go, and those of changed rows are stamped, all in one change
abbrev pub with_batch : QueueState → Uris → Uris → QueueState
with_batch queue dropped changed = ruled queue (kept queue.entries dropped) changed

abbrev pub no_range : Block
no_range = record { start = 0; end = 0 }

-- the state after it: a dropped song takes its queue entries and its stickers along, and the place loses it; playlists keep its URI
abbrev pub after_rows : List RowChange → SavedState → SavedState
after_rows changes s =
    let songs = after_batch s.songs changes in
    record s {
      songs = songs;
      queue = with_batch s.queue (drops_of changes) (changed_uris s.songs songs);
      stickers = without_songs s.stickers (drops_of changes);
      place = option_map (place_left no_range (drops_of changes) s.queue.entries) s.place;
    }

-- whether no change of it changes a row at its turn
abbrev pub leaves_rows : List RowChange → SavedState → Bool
leaves_rows changes s = not (list_any changes_a_row (effects_of s.songs changes))
