-- The one spelling of ops and of a saved state in bytes. Numbers are little-endian.
use Rattle.std.specs.Prelude.{ℕ, List, [], ◌++◌, unwrap_or, Option}
use Rattle.std.specs.List.{flat_map}
use Rattle.play_queue.specs.declared.entry.Entry.{Entry}
use Rattle.player_core.specs.Place.{PlaceState, no_place}
use Rattle.player_core.specs.declared.options.Options.{Options}
use Rattle.profile.specs.declared.profile.Profile.{Profile}
use Rattle.profile.specs.declared.profile.Profile.TheVariants.{Named, Wide}
use Rattle.song_db.specs.Query.{number_at}
use Rattle.song_db.specs.Row.{Row}
use Rattle.stickers.specs.Sticker.{Sticker}
use Rattle.state_codec.specs.declared.op.Op.{Op}
use Rattle.state_codec.specs.SavedState.{SavedState}
use Rattle.state_codec.specs.Sealed.{sealed}
use Rattle.state_codec.specs.SpellingFields.{byte_bytes, u32_bytes, u64_bytes, flag_bytes, single_bytes, text_bytes, list_bytes}
use Rattle.state_codec.specs.SpellingOps.{op_bytes}
use Rattle.state_codec.specs.SpellingRows.{row_bytes}
use Rattle.state_codec.specs.SpellingTimes.{fields_bytes}
use Rattle.stored_lists.specs.Times.{Times}

-- ops one after the other
abbrev pub ops_bytes : Profile → List Op → List ℕ
ops_bytes profile ops = flat_map (op_bytes profile) ops

-- the body of a record: its ops, and their checksum where the profile asks for one
abbrev pub body_bytes : Profile → List Op → List ℕ
body_bytes profile ops = sealed profile (ops_bytes profile ops)

abbrev pub options_bytes : Options → List ℕ
options_bytes options =
    flag_bytes options.repeat ++ (flag_bytes options.random ++ (single_bytes options.single ++ single_bytes options.consume))

-- an entry of the queue: its id, the number of its song's row, its priority and its stamp
abbrev pub entry_bytes : List Row → Entry → List ℕ
entry_bytes songs entry =
    u32_bytes entry.id ++ (u32_bytes (unwrap_or (number_at songs entry.uri) 0) ++ (byte_bytes entry.priority ++ u32_bytes entry.stamp))

-- a playlist: its name and its songs
abbrev pub playlist_bytes : List ℕ × List (List ℕ) → List ℕ
playlist_bytes list = text_bytes list.0 ++ list_bytes text_bytes list.1

abbrev pub sticker_bytes : Sticker → List ℕ
sticker_bytes sticker = text_bytes sticker.uri ++ (text_bytes sticker.name ++ text_bytes sticker.value)

-- what stands in front of the parts: key, order, the queue's version and next id, volume and options
abbrev pub head_bytes : SavedState → List ℕ
head_bytes s =
    s.key
    ++ (u64_bytes s.order ++ (u32_bytes s.queue.version ++ (u32_bytes s.queue.next_id ++ (byte_bytes s.volume ++ options_bytes s.options))))

-- rows, queue entries, playlists and stickers, each behind their number
abbrev pub parts_bytes : SavedState → List ℕ
parts_bytes s =
    list_bytes (row_bytes s.profile) s.songs
    ++ (list_bytes (entry_bytes s.songs) s.queue.entries ++ (list_bytes playlist_bytes s.lists ++ list_bytes sticker_bytes s.stickers))

-- behind the parts the second profile has fields: those of the playlists' times and of the player's place
abbrev pub with_fields : Profile → Option Times → Option PlaceState → List ℕ → List ℕ
with_fields Named times place bytes = bytes
with_fields Wide times place bytes = bytes ++ fields_bytes (unwrap_or times []) (unwrap_or place no_place)

-- the fields of a state
abbrev pub fields_of : SavedState → List ℕ
fields_of s = with_fields s.profile s.changed s.place []

-- a snapshot, with its checksum where the profile asks for one
abbrev pub saved_bytes : SavedState → List ℕ
saved_bytes s = sealed s.profile (with_fields s.profile s.changed s.place (head_bytes s ++ parts_bytes s))
