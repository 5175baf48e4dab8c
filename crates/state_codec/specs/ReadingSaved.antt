-- The reading of a snapshot.
use Rattle.std.specs.Prelude.{ℕ, ◌+◌, ◌-◌, List, [], ◌∷◌, length, slice_get, Bool, not, ◌&&◌, Some, None, Ok}
use Rattle.std.specs.Option.{ok_or}
use Rattle.std.specs.Int.{is_in_range}
use Rattle.std.specs.Ordering.{nat_cmp, is_lt}
use Rattle.std.specs.Cmp.Lexicographic.{slice_cmp}
use Rattle.player_core.specs.declared.options.Options.{Options}
use Rattle.profile.specs.declared.profile.Profile.{Profile}
use Rattle.profile.specs.declared.profile.Profile.TheVariants.{Named, Wide}
use Rattle.play_queue.specs.Builder.{has_id}
use Rattle.play_queue.specs.Limits.{MAX_ID, MAX_VERSION}
use Rattle.play_queue.specs.declared.entry.Entry.{Entry}
use Rattle.song_db.specs.Change.{has_uri}
use Rattle.song_db.specs.Last.{ends_before}
use Rattle.song_db.specs.Limits.{MAX_ROWS}
use Rattle.song_db.specs.Row.{Row}
use Rattle.song_db.specs.Uri.{is_uri}
use Rattle.stickers.specs.Limits.{MAX_STICKERS}
use Rattle.stickers.specs.Name.{is_good_name as is_sticker_name}
use Rattle.stickers.specs.Part.{is_last as is_last_sticker}
use Rattle.stickers.specs.Sticker.{Sticker}
use Rattle.stored_lists.specs.Lists.{Stored, is_full_for}
use Rattle.stored_lists.specs.Name.{is_good_name as is_list_name}
use Rattle.stored_lists.specs.Part.{is_last as is_last_list}
use Rattle.state_codec.specs.declared.layout.Layout.{Layout}
use Rattle.state_codec.specs.declared.reading.saved.Header.{Header}
use Rattle.state_codec.specs.Fields.{Field, such, byte_at, u32_at, u64_at, number_within, volume_at, flag_at, consume_at, single_at, key_at}
use Rattle.state_codec.specs.Fields.{text_at}
use Rattle.state_codec.specs.Items.{counted_at}
use Rattle.state_codec.specs.ReadingOps.{value_at}
use Rattle.state_codec.specs.ReadingRows.{uri_at, row_at}
use Rattle.state_codec.specs.ReadingTimes.{fields_at}
use Rattle.state_codec.specs.SavedState.{SavedState}
use Rattle.state_codec.specs.Steps.{◌>>=◌}

unfoldable pub options_at : Layout → List ℕ → Field Options
options_at layout bytes = do
  repeat ← flag_at bytes
  random ← flag_at repeat.1
  single ← single_at random.1
  consume ← consume_at layout single.1
  Ok (record { repeat = repeat.0; random = random.0; single = single.0; consume = consume.0 }, consume.1)

-- the URI of a row that stands behind the known ones
abbrev pub next_uri_at : List Row → List ℕ → Field (List ℕ)
next_uri_at known bytes = such (λ uri. is_uri uri && ends_before known uri) text_at bytes

-- the rows, rising by URI
abbrev pub songs_at : Profile → List ℕ → Field (List Row)
songs_at profile bytes = counted_at (number_within 0 MAX_ROWS) (λ known. row_at profile (next_uri_at known)) bytes

-- the URI of the row of a number
unfoldable pub numbered_at : List Row → List ℕ → Field (List ℕ)
numbered_at songs bytes = do
  number ← u32_at bytes
  row ← ok_or (slice_get songs number.0) (length bytes)
  Ok (row.uri, number.1)

-- an id that is used up, and that no entry has
abbrev pub is_free_id : ℕ → List Entry → ℕ → Bool
is_free_id next_id known id = is_in_range 1 (next_id - 1) id && not (has_id known id)

-- what follows the id of an entry: row number, priority and stamp
unfoldable pub rest_of_entry_at : List Row → ℕ → ℕ → List ℕ → Field Entry
rest_of_entry_at songs version id bytes = do
  uri ← numbered_at songs bytes
  priority ← byte_at uri.1
  stamp ← number_within 1 version priority.1
  Ok (record { id = id; uri = uri.0; priority = priority.0; stamp = stamp.0 }, stamp.1)

-- an entry: its id, and the rest
unfoldable pub entry_at : List Row → ℕ → ℕ → List Entry → List ℕ → Field Entry
entry_at songs version next_id known bytes = do
  id ← such (is_free_id next_id known) u32_at bytes
  rest_of_entry_at songs version id.0 id.1

abbrev pub entries_at : Layout → List Row → ℕ → ℕ → List ℕ → Field (List Entry)
entries_at layout songs version next_id bytes = counted_at (number_within 0 layout.queue_limit) (entry_at songs version next_id) bytes

-- the songs of a playlist, where so many more fit
abbrev pub uris_at : Stored → List ℕ → Field (List (List ℕ))
uris_at known bytes = counted_at (such (λ n. not (is_full_for known n)) u32_at) (λ uris. uri_at) bytes

-- a name behind those of the known playlists
abbrev pub list_name_at : Stored → List ℕ → Field (List ℕ)
list_name_at known bytes = such (λ name. is_list_name name && is_last_list known name) text_at bytes

-- a playlist: its name and its songs
unfoldable pub playlist_at : Stored → List ℕ → Field (List ℕ × List (List ℕ))
playlist_at known bytes = do
  name ← list_name_at known bytes
  songs ← uris_at known name.1
  Ok ((name.0, songs.0), songs.1)

abbrev pub lists_at : Layout → List ℕ → Field Stored
lists_at layout bytes = counted_at (number_within 0 layout.list_limit) playlist_at bytes

-- the URI of the last sticker
abbrev pub last_uri : List Sticker → List ℕ
last_uri [] = []
last_uri (s ∷ []) = s.uri
last_uri (s ∷ next ∷ stickers) = last_uri (next ∷ stickers)

-- the URI of a row, that of the last sticker or one above it
abbrev pub song_uri_at : List Row → List ℕ → List ℕ → Field (List ℕ)
song_uri_at songs last bytes = such (λ uri. has_uri songs uri && not (is_lt (slice_cmp nat_cmp uri last))) text_at bytes

-- a name of which a sticker of the URI stands behind the known ones
abbrev pub sticker_name_at : List Sticker → List ℕ → List ℕ → Field (List ℕ)
sticker_name_at known uri bytes = such (λ name. is_sticker_name name && is_last_sticker known uri name) text_at bytes

-- a sticker: the URI of a row, the name and the value, behind the known ones by URI and name
unfoldable pub sticker_at : List Row → List Sticker → List ℕ → Field Sticker
sticker_at songs known bytes = do
  uri ← song_uri_at songs (last_uri known) bytes
  name ← sticker_name_at known uri.0 uri.1
  value ← value_at name.1
  Ok (record { uri = uri.0; name = name.0; value = value.0 }, value.1)

abbrev pub stickers_at : List Row → List ℕ → Field (List Sticker)
stickers_at songs bytes = counted_at (number_within 0 MAX_STICKERS) (sticker_at songs) bytes

-- what stands in front of the parts
unfoldable pub header_at : Layout → List ℕ → Field Header
header_at layout bytes = do
  key ← key_at bytes
  order ← u64_at key.1
  version ← number_within 1 MAX_VERSION order.1
  next_id ← number_within 1 (MAX_ID + 1) version.1
  volume ← volume_at next_id.1
  options ← options_at layout volume.1
  Ok (record { key = key.0; order = order.0; version = version.0; next_id = next_id.0; volume = volume.0; options = options.0 }, options.1)

-- rows, queue entries, playlists and stickers, behind a header; no time and no place is known yet
unfoldable pub parts_at : Layout → Header → List ℕ → Field SavedState
parts_at layout header bytes = do
  songs ← songs_at layout.profile bytes
  entries ← entries_at layout songs.0 header.version header.next_id songs.1
  lists ← lists_at layout entries.1
  stickers ← stickers_at songs.0 lists.1
  Ok (
    record {
      profile = layout.profile;
      key = header.key;
      order = header.order;
      volume = header.volume;
      options = header.options;
      songs = songs.0;
      queue = record { entries = entries.0; version = header.version; next_id = header.next_id };
      lists = lists.0;
      stickers = stickers.0;
      place = None;
      changed = None;
    },
    stickers.1,
  )

-- behind the parts the second profile has fields: those of the playlists' times and of the player's place
abbrev pub before_fields : Profile → Field SavedState → Field SavedState
before_fields Named field = field
before_fields Wide field = do
  parts ← field
  fields ← fields_at parts.1
  Ok (record parts.0 { place = Some fields.0.1; changed = Some fields.0.0 }, fields.1)

-- a snapshot without its checksum
unfoldable pub saved_at : Layout → List ℕ → Field SavedState
saved_at layout bytes = do
  header ← header_at layout bytes
  before_fields layout.profile (parts_at layout header.0 header.1)
