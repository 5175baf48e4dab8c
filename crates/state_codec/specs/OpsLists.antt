-- What the ops of the stored playlists do.
use Rattle.std.specs.Prelude.{Bool, true, false, ◌==◌, ◌&&◌, List, [], ◌∷◌, length, map, Option, option_map, is_some}
use Rattle.std.specs.Str.{bytes_eq}
use Rattle.play_queue.specs.declared.entry.Entry.{Entry}
use Rattle.state_codec.specs.OpsSongs.{have_rows, uris_at, if_named}
use Rattle.state_codec.specs.OpsTimes.{list_times}
use Rattle.state_codec.specs.SavedState.{SavedState}
use Rattle.state_codec.specs.declared.op.list_op.ListOp.{ListOp}
use Rattle.state_codec.specs.declared.op.list_op.ListOp.TheVariants.{Save, Add, Remove, Move, Clear, Rename, Drop}
use Rattle.state_codec.specs.declared.refusal.OpRefusal.{OpRefusal}
use Rattle.state_codec.specs.declared.refusal.OpRefusal.TheVariants.{Lists}
use Rattle.stored_lists.specs.Lists.{Stored, songs_of, songs_or_none, with_list, without_list, with_songs, added, renamed}
use Rattle.stored_lists.specs.Lists.{name_refusal, save_refusal, add_refusal, remove_refusal, move_refusal, rename_refusal}
use Rattle.stored_lists.specs.Songs.{Uris, without_range, moved}

-- the songs of the queue
abbrev pub uris_of : List Entry → Uris
uris_of entries = map (λ entry. entry.uri) entries

-- what refuses it
abbrev pub list_refusal : ListOp → SavedState → Option OpRefusal
list_refusal (Save name) s = option_map Lists (save_refusal s.lists name (length s.queue.entries))
list_refusal (Add name rows) s = if_named (have_rows s.songs rows) (option_map Lists (add_refusal s.lists name (length rows)))
list_refusal (Remove name start end) s = option_map Lists (remove_refusal s.lists name start end)
list_refusal (Move name from to) s = option_map Lists (move_refusal s.lists name from to)
list_refusal (Clear name) s = option_map Lists (name_refusal s.lists name)
list_refusal (Rename from to) s = option_map Lists (rename_refusal s.lists from to)
list_refusal (Drop name) s = option_map Lists (name_refusal s.lists name)

-- the playlists after it
abbrev pub lists_after : ListOp → SavedState → Stored
lists_after (Save name) s = with_list s.lists name (uris_of s.queue.entries)
lists_after (Add name rows) s = added s.lists name (uris_at s.songs rows)
lists_after (Remove name start end) s = with_songs s.lists name (without_range (songs_or_none s.lists name) start end)
lists_after (Move name from to) s = with_songs s.lists name (moved (songs_or_none s.lists name) from to)
lists_after (Clear name) s = with_songs s.lists name []
lists_after (Rename from to) s = renamed s.lists from to
lists_after (Drop name) s = without_list s.lists name

abbrev pub same_uris : Uris → Uris → Bool
same_uris [] [] = true
same_uris [] (other ∷ others) = false
same_uris (uri ∷ uris) [] = false
same_uris (uri ∷ uris) (other ∷ others) = bytes_eq uri other && same_uris uris others

-- whether it changes nothing
abbrev pub leaves_lists : ListOp → SavedState → Bool
leaves_lists (Save name) s = false
leaves_lists (Add name rows) s = is_some (songs_of s.lists name) && length rows == 0
leaves_lists (Remove name start end) s = start == end
leaves_lists (Move name from to) s = same_uris (moved (songs_or_none s.lists name) from to) (songs_or_none s.lists name)
leaves_lists (Clear name) s = length (songs_or_none s.lists name) == 0
leaves_lists (Rename from to) s = false
leaves_lists (Drop name) s = false

-- with the playlists after it
abbrev pub lists_edited : ListOp → SavedState → SavedState
lists_edited op s = record s { lists = lists_after op s }

-- the state after it: the playlists, and the time of the one that it changed
abbrev pub after_list : ListOp → SavedState → SavedState
after_list op s = record s { lists = lists_after op s; changed = list_times (leaves_lists op s) op s.changed }
