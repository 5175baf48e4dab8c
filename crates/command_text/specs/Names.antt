-- The commands: the table of them, a row a command, which of them a profile knows, and where a command may stand.
use denote.Enum.Declared.{tag_of}
use Rattle.std.specs.Prelude.{ℕ, ◌==◌, ◌&&◌, List, [], ◌∷◌, map, Bool, true, false, not, Option, Some, None, codes, if◌then◌else◌}
use Rattle.std.specs.List.{find}
use Rattle.std.specs.Str.{bytes_eq}
use Rattle.profile.specs.declared.profile.Profile.{Profile}
use Rattle.profile.specs.declared.profile.Profile.TheVariants.{Named, Wide}
use Rattle.command_text.specs.contracts.name.CommandName.{the_type}
use Rattle.command_text.specs.declared.name.CommandName.{CommandName}
use Rattle.command_text.specs.declared.name.CommandName.TheVariants as names
use Rattle.command_text.specs.declared.topic.Topic.{Topic}
use Rattle.command_text.specs.declared.topic.Topic.TheVariants as topics
use Rattle.command_text.specs.declared.topic.SettingsName.TheVariants as settings
use Rattle.command_text.specs.declared.topic.DatabaseName.TheVariants as database
use Rattle.command_text.specs.declared.topic.QueueName.TheVariants as queue
use Rattle.command_text.specs.declared.topic.FindingName.TheVariants as finding
use Rattle.command_text.specs.declared.topic.ListsName.TheVariants as lists
use Rattle.command_text.specs.declared.topic.MessagesName.TheVariants as messages
use Rattle.command_text.specs.declared.topic.StickersName.TheVariants as stickers
use Rattle.command_text.specs.declared.topic.PlayingName.TheVariants as playing
use Rattle.command_text.specs.declared.topic.SessionName.TheVariants as session
use Rattle.command_text.specs.declared.topic.SetupName.TheVariants as setup
use Rattle.command_text.specs.declared.topic.PicturesName.TheVariants as pictures

pub record Row : Type 0 where
  pub name : CommandName
  pub word : List ℕ
  pub topic : Topic
  pub least : Profile

-- a command that each profile knows, and one that the wide profile alone knows
abbrev pub row : CommandName → List ℕ → Topic → Row
row name word topic = record { name = name; word = word; topic = topic; least = Named }

abbrev pub wide_row : CommandName → List ℕ → Topic → Row
wide_row name word topic = record { name = name; word = word; topic = topic; least = Wide }

-- The table of the commands, rising by the bytes of the words: the word that asks for each, its topic, and the least profile that knows it.
abbrev pub rows : List Row
rows =
    row names.Add (codes "add") (topics.Queue queue.Add) ∷
    row names.AddId (codes "addid") (topics.Queue queue.AddId) ∷
    wide_row names.AlbumArt (codes "albumart") (topics.Pictures pictures.AlbumArt) ∷
    wide_row names.BinaryLimit (codes "binarylimit") (topics.Setup setup.BinaryLimit) ∷
    wide_row names.Channels (codes "channels") (topics.Messages messages.Channels) ∷
    row names.Clear (codes "clear") (topics.Queue queue.Clear) ∷
    row names.ClearError (codes "clearerror") (topics.Playing playing.ClearError) ∷
    row names.Close (codes "close") (topics.Settings settings.Close) ∷
    row names.CommandListBegin (codes "command_list_begin") (topics.Session session.CommandListBegin) ∷
    row names.CommandListEnd (codes "command_list_end") (topics.Session session.CommandListEnd) ∷
    row names.CommandListOkBegin (codes "command_list_ok_begin") (topics.Session session.CommandListOkBegin) ∷
    row names.Commands (codes "commands") (topics.Database database.Commands) ∷
    row names.Consume (codes "consume") (topics.Settings settings.Consume) ∷
    row names.Count (codes "count") (topics.Finding finding.Count) ∷
    wide_row names.Crossfade (codes "crossfade") (topics.Setup setup.Crossfade) ∷
    row names.CurrentSong (codes "currentsong") (topics.Playing playing.CurrentSong) ∷
    wide_row names.Decoders (codes "decoders") (topics.Setup setup.Decoders) ∷
    row names.Delete (codes "delete") (topics.Queue queue.Delete) ∷
    row names.DeleteId (codes "deleteid") (topics.Queue queue.DeleteId) ∷
    wide_row names.DisableOutput (codes "disableoutput") (topics.Setup setup.DisableOutput) ∷
    wide_row names.EnableOutput (codes "enableoutput") (topics.Setup setup.EnableOutput) ∷
    row names.Find (codes "find") (topics.Finding finding.Find) ∷
    row names.FindAdd (codes "findadd") (topics.Finding finding.FindAdd) ∷
    wide_row names.GetVolume (codes "getvol") (topics.Settings settings.GetVolume) ∷
    row names.Idle (codes "idle") (topics.Session session.Idle) ∷
    row names.Kill (codes "kill") (topics.Settings settings.Kill) ∷
    row names.ListTag (codes "list") (topics.Finding finding.ListTag) ∷
    row names.ListAll (codes "listall") (topics.Database database.ListAll) ∷
    row names.ListAllInfo (codes "listallinfo") (topics.Database database.ListAllInfo) ∷
    wide_row names.ListFiles (codes "listfiles") (topics.Database database.ListFiles) ∷
    wide_row names.ListMounts (codes "listmounts") (topics.Setup setup.ListMounts) ∷
    wide_row names.ListNeighbors (codes "listneighbors") (topics.Setup setup.ListNeighbors) ∷
    wide_row names.ListPartitions (codes "listpartitions") (topics.Setup setup.ListPartitions) ∷
    row names.ListPlaylist (codes "listplaylist") (topics.Lists lists.ListPlaylist) ∷
    row names.ListPlaylistInfo (codes "listplaylistinfo") (topics.Lists lists.ListPlaylistInfo) ∷
    row names.ListPlaylists (codes "listplaylists") (topics.Lists lists.ListPlaylists) ∷
    row names.Load (codes "load") (topics.Lists lists.Load) ∷
    row names.ListInfo (codes "lsinfo") (topics.Database database.ListInfo) ∷
    wide_row names.MixrampDb (codes "mixrampdb") (topics.Setup setup.MixrampDb) ∷
    wide_row names.MixrampDelay (codes "mixrampdelay") (topics.Setup setup.MixrampDelay) ∷
    row names.Move (codes "move") (topics.Queue queue.Move) ∷
    row names.MoveId (codes "moveid") (topics.Queue queue.MoveId) ∷
    row names.Next (codes "next") (topics.Playing playing.Next) ∷
    row names.NoIdle (codes "noidle") (topics.Session session.NoIdle) ∷
    row names.NotCommands (codes "notcommands") (topics.Database database.NotCommands) ∷
    wide_row names.Outputs (codes "outputs") (topics.Setup setup.Outputs) ∷
    wide_row names.SetOutput (codes "outputset") (topics.Setup setup.SetOutput) ∷
    wide_row names.Partition (codes "partition") (topics.Setup setup.Partition) ∷
    wide_row names.Password (codes "password") (topics.Setup setup.Password) ∷
    row names.Pause (codes "pause") (topics.Playing playing.Pause) ∷
    row names.Ping (codes "ping") (topics.Settings settings.Ping) ∷
    row names.Play (codes "play") (topics.Playing playing.Play) ∷
    row names.PlayId (codes "playid") (topics.Playing playing.PlayId) ∷
    wide_row names.QueueFiles (codes "playlist") (topics.Queue queue.QueueFiles) ∷
    row names.PlaylistAdd (codes "playlistadd") (topics.Lists lists.PlaylistAdd) ∷
    row names.PlaylistClear (codes "playlistclear") (topics.Lists lists.PlaylistClear) ∷
    row names.PlaylistDelete (codes "playlistdelete") (topics.Lists lists.PlaylistDelete) ∷
    row names.QueueFind (codes "playlistfind") (topics.Finding finding.QueueFind) ∷
    row names.QueueId (codes "playlistid") (topics.Queue queue.QueueId) ∷
    row names.QueueInfo (codes "playlistinfo") (topics.Queue queue.QueueInfo) ∷
    row names.PlaylistMove (codes "playlistmove") (topics.Lists lists.PlaylistMove) ∷
    row names.QueueSearch (codes "playlistsearch") (topics.Finding finding.QueueSearch) ∷
    row names.QueueChanges (codes "plchanges") (topics.Queue queue.QueueChanges) ∷
    row names.QueueChangesPositions (codes "plchangesposid") (topics.Queue queue.QueueChangesPositions) ∷
    row names.Previous (codes "previous") (topics.Playing playing.Previous) ∷
    row names.Priority (codes "prio") (topics.Queue queue.Priority) ∷
    row names.PriorityId (codes "prioid") (topics.Queue queue.PriorityId) ∷
    row names.Random (codes "random") (topics.Settings settings.Random) ∷
    wide_row names.ReadComments (codes "readcomments") (topics.Setup setup.ReadComments) ∷
    wide_row names.ReadMessages (codes "readmessages") (topics.Messages messages.ReadMessages) ∷
    wide_row names.ReadPicture (codes "readpicture") (topics.Pictures pictures.ReadPicture) ∷
    row names.Rename (codes "rename") (topics.Lists lists.Rename) ∷
    row names.Repeat (codes "repeat") (topics.Settings settings.Repeat) ∷
    wide_row names.ReplayGainMode (codes "replay_gain_mode") (topics.Setup setup.ReplayGainMode) ∷
    wide_row names.ReplayGainStatus (codes "replay_gain_status") (topics.Setup setup.ReplayGainStatus) ∷
    row names.Rescan (codes "rescan") (topics.Database database.Rescan) ∷
    row names.Remove (codes "rm") (topics.Lists lists.Remove) ∷
    row names.Save (codes "save") (topics.Lists lists.Save) ∷
    row names.Search (codes "search") (topics.Finding finding.Search) ∷
    row names.SearchAdd (codes "searchadd") (topics.Finding finding.SearchAdd) ∷
    row names.SearchAddPlaylist (codes "searchaddpl") (topics.Finding finding.SearchAddPlaylist) ∷
    row names.Seek (codes "seek") (topics.Playing playing.Seek) ∷
    row names.SeekCurrent (codes "seekcur") (topics.Playing playing.SeekCurrent) ∷
    row names.SeekId (codes "seekid") (topics.Playing playing.SeekId) ∷
    wide_row names.SendMessage (codes "sendmessage") (topics.Messages messages.SendMessage) ∷
    row names.SetVolume (codes "setvol") (topics.Settings settings.SetVolume) ∷
    row names.Shuffle (codes "shuffle") (topics.Queue queue.Shuffle) ∷
    row names.Single (codes "single") (topics.Settings settings.Single) ∷
    row names.Stats (codes "stats") (topics.Database database.Stats) ∷
    row names.Status (codes "status") (topics.Settings settings.Status) ∷
    row names.Sticker (codes "sticker") (topics.Stickers stickers.Sticker) ∷
    row names.Stop (codes "stop") (topics.Playing playing.Stop) ∷
    wide_row names.Subscribe (codes "subscribe") (topics.Messages messages.Subscribe) ∷
    row names.Swap (codes "swap") (topics.Queue queue.Swap) ∷
    row names.SwapId (codes "swapid") (topics.Queue queue.SwapId) ∷
    row names.TagTypes (codes "tagtypes") (topics.Database database.TagTypes) ∷
    wide_row names.ToggleOutput (codes "toggleoutput") (topics.Setup setup.ToggleOutput) ∷
    wide_row names.Unsubscribe (codes "unsubscribe") (topics.Messages messages.Unsubscribe) ∷
    row names.Update (codes "update") (topics.Database database.Update) ∷
    wide_row names.UrlHandlers (codes "urlhandlers") (topics.Setup setup.UrlHandlers) ∷
    wide_row names.ChangeVolume (codes "volume") (topics.Settings settings.ChangeVolume) ∷ []

-- where a name stands among all
abbrev pub place_of : CommandName → ℕ
place_of name = tag_of the_type name

-- the row of a name
abbrev pub row_in : List Row → CommandName → Row
row_in [] name = row name [] (topics.Stickers stickers.Sticker)
row_in (row ∷ rows) name = if place_of row.name == place_of name then row else row_in rows name

abbrev pub name_text : CommandName → List ℕ
name_text name = let row = row_in rows name in row.word

abbrev pub topic_of : CommandName → Topic
topic_of name = let row = row_in rows name in row.topic

abbrev pub least_of : CommandName → Profile
least_of name = let row = row_in rows name in row.least

-- the wide profile knows what each other one knows
abbrev pub holds : Profile → Profile → Bool
holds Wide least = true
holds Named Named = true
holds Named Wide = false

-- whether the profile knows a command
abbrev pub is_known : Profile → CommandName → Bool
is_known profile name = holds profile (least_of name)

-- every name, rising by the bytes of its word
abbrev pub all_names : List CommandName
all_names = map (λ row. row.name) rows

-- the lines that begin or end a command list, or end an `idle`
abbrev pub is_control : CommandName → Bool
is_control names.CommandListBegin = true
is_control names.CommandListEnd = true
is_control names.CommandListOkBegin = true
is_control names.NoIdle = true
is_control name = false

-- what `commands` lists
abbrev pub is_listed : Profile → CommandName → Bool
is_listed profile name = is_known profile name && not (is_control name)

-- the command of this name
unfoldable pub any_named : List ℕ → Option CommandName
any_named word = find (λ name. bytes_eq word (name_text name)) all_names

-- a command that the profile knows
abbrev pub known : Profile → Option CommandName → Option CommandName
known profile None = None
known profile (Some name) = if is_known profile name then Some name else None

-- the command of this name, if the profile knows it
abbrev pub named : Profile → List ℕ → Option CommandName
named profile word = known profile (any_named word)

-- whether the command may stand in a command list
abbrev pub stands_in_lists : CommandName → Bool
stands_in_lists names.Close = false
stands_in_lists names.CommandListBegin = false
stands_in_lists names.CommandListOkBegin = false
stands_in_lists names.Idle = false
stands_in_lists names.Kill = false
stands_in_lists names.NoIdle = false
stands_in_lists name = true
