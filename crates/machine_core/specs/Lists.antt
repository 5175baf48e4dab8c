-- The commands of the stored playlists.
use Rattle.std.specs.Prelude.{ℕ, List, [], length, Option, Some, None, Result, Ok, Err, slice_range, if◌then◌else◌}
use Rattle.std.specs.List.{flat_map}
use Rattle.std.specs.Option.{ok_or, option_map_or}
use Rattle.command_text.specs.AnswerNames.{playlist_lines}
use Rattle.command_text.specs.AnswerSongs.{file_line, song_lines}
use Rattle.command_text.specs.declared.command.lists.ListsCommand.{ListsCommand}
use Rattle.command_text.specs.declared.command.lists.ListsCommand.TheVariants as commands
use Rattle.command_text.specs.declared.command.lists.SaveMode.TheVariants.{Create, Append, Replace}
use Rattle.command_text.specs.declared.range.PositionRange.{PositionRange}
use Rattle.command_text.specs.declared.range.PositionRange.TheVariants.{One}
use Rattle.command_text.specs.declared.refusal.CommandRefusal.{CommandRefusal}
use Rattle.command_text.specs.declared.refusal.CommandRefusal.TheVariants.{BadPlaylistName, NoSuchPlaylist, NoCurrentSong}
use Rattle.command_text.specs.declared.tag_mask.TagMask.{TagMask}
use Rattle.play_queue.specs.declared.target.Target.{Target}
use Rattle.profile.specs.declared.profile.Profile.{Profile}
use Rattle.song_db.specs.Row.{Row, row_at}
use Rattle.state_codec.specs.OpsLists.{uris_of}
use Rattle.state_codec.specs.Replacing.{replace_ops, replaces_nothing}
use Rattle.state_codec.specs.Steps.{◌>>=◌}
use Rattle.state_codec.specs.declared.op.Op.TheVariants.{List as Lists}
use Rattle.state_codec.specs.declared.op.list_op.ListOp.TheVariants.{Save, Add, Remove, Move, Clear, Rename, Drop}
use Rattle.stored_lists.specs.Lists.{Stored, names_of, songs_of}
use Rattle.stored_lists.specs.Name.{is_good_name}
use Rattle.stored_lists.specs.Songs.{Uris}
use Rattle.stored_lists.specs.Times.{Times, time_of}
use Rattle.machine_core.specs.Adding.{adds, can_count}
use Rattle.machine_core.specs.ListMoves.{adds_songs, moves_songs}
use Rattle.machine_core.specs.Meaning.{Meaning, Meant, must, says, stands, does, edits, unless_refused, refusal_of_all}
use Rattle.machine_core.specs.Named.{numbers_of, numbers_named}
use Rattle.machine_core.specs.Spans.{span_in, span_or_all}
use Rattle.machine_core.specs.State.{MachineState, shown_of}
use Rattle.machine_core.specs.Told.{told}

-- a name that a playlist may have
abbrev pub list_name : List ℕ → Result (List ℕ) CommandRefusal
list_name name = if is_good_name name then Ok name else Err BadPlaylistName

-- the songs of a playlist
abbrev pub songs_named : Stored → List ℕ → Result Uris CommandRefusal
songs_named lists name = do
  good ← list_name name
  ok_or (songs_of lists good) NoSuchPlaylist

-- when a playlist was last changed, in seconds since the beginning of 1970; 0 where that isn't known
abbrev pub time_in : Option Times → List ℕ → ℕ
time_in times name = option_map_or (time_of name) times 0

abbrev pub list_lines : Profile → Option Times → List ℕ → List ℕ
list_lines profile times name = playlist_lines profile (time_in times name) name

-- the names, by their bytes
abbrev pub name_lines : Profile → Option Times → Stored → List ℕ
name_lines profile times lists = flat_map (list_lines profile times) (names_of lists)

-- a song's lines, or its URI alone where the song is gone
abbrev pub lines_or_uri : TagMask → List ℕ → Option Row → List ℕ
lines_or_uri mask uri (Some row) = song_lines mask row
lines_or_uri mask uri None = file_line uri

abbrev pub song_info : TagMask → List Row → List ℕ → List ℕ
song_info mask songs uri = lines_or_uri mask uri (row_at songs uri)

-- the songs in the range that still have rows
abbrev pub rows_to_load : List Row → Uris → Option PositionRange → Option Target → Option ℕ → Result (List ℕ) CommandRefusal
rows_to_load database songs range to current = do
  counted ← must (can_count to current) NoCurrentSong
  span ← span_or_all range (length songs)
  Ok (numbers_of database (slice_range songs span.start span.end))

-- the rows of the songs of the queue; each entry of a saved state has one
abbrev pub queue_rows : MachineState → List ℕ
queue_rows m = numbers_of m.saved.songs (uris_of m.saved.queue.entries)

-- A playlist that is there gets the songs of the queue in place of its own: it goes, and is saved anew. What refuses either of the two
-- ops at its turn refuses the command; where the playlist has just these songs, none is made.
abbrev pub replaced : List ℕ → MachineState → Meaning
replaced name m = does [] (replace_ops name) m.player m

abbrev pub replaces : List ℕ → MachineState → Meant
replaces name m =
    unless_refused (told (refusal_of_all (replace_ops name) m.saved))
    (if replaces_nothing name m.saved then stands [] m else replaced name m)

-- a block of a playlist goes to a place of the rest
abbrev pub moves_range : List ℕ → PositionRange → ℕ → MachineState → Meant
moves_range name range to m = do
  songs ← songs_named m.saved.lists name
  block ← span_in range (length songs)
  moves_songs name block to (length songs) m

-- one song goes to a place of a playlist, or a block to a place of the rest
abbrev pub moves_in : List ℕ → PositionRange → ℕ → MachineState → Meant
moves_in name (One from) to m = do
  good ← list_name name
  edits (Lists (Move good from to)) [] m
moves_in name range to m = moves_range name range to m

unfoldable pub lists_meaning : TagMask → ListsCommand → MachineState → Meant
lists_meaning mask (commands.Add name path to) m = do
  good ← list_name name
  rows ← numbers_named m.saved.profile m.saved.songs path
  adds_songs good rows to m
lists_meaning mask (commands.Clear name) m = do
  good ← list_name name
  edits (Lists (Clear good)) [] m
lists_meaning mask (commands.Delete name range) m = do
  songs ← songs_named m.saved.lists name
  span ← span_in range (length songs)
  edits (Lists (Remove name span.start span.end)) [] m
lists_meaning mask (commands.Load name range to) m = do
  songs ← songs_named m.saved.lists name
  rows ← rows_to_load m.saved.songs songs range to (shown_of m).current
  adds to rows [] m
lists_meaning mask (commands.Move name range to) m = moves_in name range to m
lists_meaning mask commands.Names m = says (name_lines m.saved.profile m.saved.changed m.saved.lists) m
lists_meaning mask (commands.Remove name) m = do
  good ← list_name name
  edits (Lists (Drop good)) [] m
lists_meaning mask (commands.Rename from to) m = do
  old ← list_name from
  new ← list_name to
  edits (Lists (Rename old new)) [] m
lists_meaning mask (commands.Save name Create) m = do
  good ← list_name name
  edits (Lists (Save good)) [] m
lists_meaning mask (commands.Save name Append) m = do
  songs ← songs_named m.saved.lists name
  edits (Lists (Add name (queue_rows m))) [] m
lists_meaning mask (commands.Save name Replace) m = do
  good ← list_name name
  replaces good m
lists_meaning mask (commands.Songs name) m = do
  songs ← songs_named m.saved.lists name
  says (flat_map file_line songs) m
lists_meaning mask (commands.SongsInfo name) m = do
  songs ← songs_named m.saved.lists name
  says (flat_map (song_info mask m.saved.songs) songs) m
