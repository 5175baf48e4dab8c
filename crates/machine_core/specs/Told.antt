-- How a command tells the refusal of an op that it asks for.
use Rattle.std.specs.Prelude.{Option, option_map}
use Rattle.command_text.specs.declared.refusal.CommandRefusal.{CommandRefusal}
use Rattle.command_text.specs.declared.refusal.CommandRefusal.TheVariants as command
use Rattle.play_queue.specs.declared.refusal.QueueError.{QueueError}
use Rattle.play_queue.specs.declared.refusal.QueueError.TheVariants as queue
use Rattle.player_core.specs.declared.refusal.PlayerError.{PlayerError}
use Rattle.player_core.specs.declared.refusal.PlayerError.TheVariants as player
use Rattle.song_db.specs.declared.refusal.SongDbError.{SongDbError}
use Rattle.song_db.specs.declared.refusal.SongDbError.TheVariants as songs
use Rattle.state_codec.specs.declared.refusal.OpRefusal.{OpRefusal}
use Rattle.state_codec.specs.declared.refusal.OpRefusal.TheVariants.{Songs, Queue, Lists, Stickers}
use Rattle.stickers.specs.declared.refusal.StickersError.{StickersError}
use Rattle.stickers.specs.declared.refusal.StickersError.TheVariants as stickers
use Rattle.stored_lists.specs.declared.refusal.ListsError.{ListsError}
use Rattle.stored_lists.specs.declared.refusal.ListsError.TheVariants as lists
use Rattle.machine_core.specs.declared.work.Failure.{Failure}
use Rattle.machine_core.specs.declared.work.Failure.TheVariants.{Refused, NoMemory}

-- a full database refuses batches alone, and no command makes one
abbrev pub songs_told : SongDbError → CommandRefusal
songs_told songs.NoSuchUri = command.NoSuchUri
songs_told songs.DbFull = command.OutOfMemory
songs_told songs.NoMemory = command.OutOfMemory

abbrev pub queue_told : QueueError → CommandRefusal
queue_told queue.BadIndex = command.BadIndex
queue_told queue.NoSuchSong = command.NoSuchSong
queue_told queue.QueueFull = command.QueueFull
queue_told queue.IdsSpent = command.IdsSpent
queue_told queue.NoCurrentSong = command.NoCurrentSong
queue_told queue.NoMemory = command.OutOfMemory

abbrev pub lists_told : ListsError → CommandRefusal
lists_told lists.BadIndex = command.BadIndex
lists_told lists.BadName = command.BadPlaylistName
lists_told lists.NoSuchList = command.NoSuchPlaylist
lists_told lists.ListExists = command.PlaylistExists
lists_told lists.ListsFull = command.PlaylistsFull
lists_told lists.NoMemory = command.OutOfMemory

abbrev pub stickers_told : StickersError → CommandRefusal
stickers_told stickers.NoSuchSticker = command.NoSuchSticker
stickers_told stickers.BadStickerName = command.BadStickerName
stickers_told stickers.StickersFull = command.StickersFull
stickers_told stickers.NoMemory = command.OutOfMemory

abbrev pub player_told : PlayerError → CommandRefusal
player_told player.BadIndex = command.BadIndex
player_told player.NoSuchSong = command.NoSuchSong
player_told player.NotPlaying = command.NotPlaying
player_told player.NoMemory = command.OutOfMemory

abbrev pub op_told : OpRefusal → CommandRefusal
op_told (Songs refusal) = songs_told refusal
op_told (Queue refusal) = queue_told refusal
op_told (Lists refusal) = lists_told refusal
op_told (Stickers refusal) = stickers_told refusal

abbrev pub told : Option OpRefusal → Option CommandRefusal
told refusal = option_map op_told refusal

-- want of memory of the player is want of memory; else it is refused
abbrev pub failure_of : PlayerError → Failure
failure_of player.BadIndex = Refused command.BadIndex
failure_of player.NoSuchSong = Refused command.NoSuchSong
failure_of player.NotPlaying = Refused command.NotPlaying
failure_of player.NoMemory = NoMemory
