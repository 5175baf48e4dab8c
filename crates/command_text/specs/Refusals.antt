-- The code, the number and the text of each refusal: one row a refusal of a command.
use Rattle.std.specs.Prelude.{ℕ, List, [], ◌++◌, Option, Some, None, codes}
use Rattle.std.specs.Fmt.{decimal}
use Rattle.command_text.specs.declared.name.CommandName.{CommandName}
use Rattle.command_text.specs.declared.refusal.AckCode.{AckCode}
use Rattle.command_text.specs.declared.refusal.AckCode.TheVariants.{NotList, Argument, Password, Unknown, NoExist, PlaylistMax, System}
use Rattle.command_text.specs.declared.refusal.AckCode.TheVariants.{UpdateAlready, PlayerSync, Exist}
use Rattle.command_text.specs.declared.refusal.CommandRefusal.{CommandRefusal}
use Rattle.command_text.specs.declared.refusal.CommandRefusal.TheVariants as command
use Rattle.command_text.specs.declared.refusal.MessagesRefusal.{MessagesRefusal}
use Rattle.command_text.specs.declared.refusal.MessagesRefusal.TheVariants as messages
use Rattle.command_text.specs.declared.refusal.Refusal.{Refusal}
use Rattle.command_text.specs.declared.refusal.Refusal.TheVariants as line
use Rattle.command_text.specs.declared.refusal.ReadError.{ReadError}
use Rattle.command_text.specs.declared.refusal.ReadError.TheVariants as errors
use Rattle.command_text.specs.declared.refusal.SetupRefusal.{SetupRefusal}
use Rattle.command_text.specs.declared.refusal.SetupRefusal.TheVariants as setup
use Rattle.command_text.specs.declared.refusal.TagsRefusal.{TagsRefusal}
use Rattle.command_text.specs.declared.refusal.TagsRefusal.TheVariants as tags
use Rattle.command_text.specs.Names.{name_text}

-- the number that an `ACK` line prints for a code
abbrev pub code_number : AckCode → ℕ
code_number NotList = 1
code_number Argument = 2
code_number Password = 3
code_number Unknown = 5
code_number NoExist = 50
code_number PlaylistMax = 51
code_number System = 52
code_number UpdateAlready = 54
code_number PlayerSync = 55
code_number Exist = 56

-- a text between double quotes, behind another
abbrev pub quoting : List ℕ → List ℕ → List ℕ
quoting before text = before ++ (codes "\"" ++ (text ++ codes "\""))

-- what is told of a refusal of a command: its code, its number, where it has one, and its text at a command of this name
pub record CommandRow : Type 0 where
  pub code : AckCode
  pub number : Option ℕ
  pub text : CommandName → List ℕ

-- a text that does not speak of the command
abbrev pub row : AckCode → Option ℕ → List ℕ → CommandRow
row code number text = record { code = code; number = number; text = λ name. text }

-- what is told where the daemon isn't set up so: the code and the text
abbrev pub setup_code_of : SetupRefusal → AckCode
setup_code_of setup.AlwaysOn = Argument
setup_code_of setup.BadOffset = Argument
setup_code_of setup.IncorrectPassword = Password
setup_code_of setup.NoCrossfade = Argument
setup_code_of setup.NoMixramp = Argument
setup_code_of setup.NoNeighbors = Unknown
setup_code_of setup.NoPicture = NoExist
setup_code_of setup.NoSuchOutput = NoExist
setup_code_of setup.NoSuchPartition = NoExist
setup_code_of setup.OffsetTooLarge = Argument
setup_code_of setup.OnePicture = Argument
setup_code_of setup.PictureUnread = Unknown
setup_code_of setup.UnrecognizedGain = Argument
setup_code_of setup.UnsupportedAttribute = Argument

abbrev pub setup_text_of : SetupRefusal → List ℕ
setup_text_of setup.AlwaysOn = codes "the only output is always on"
setup_text_of setup.BadOffset = codes "Bad file offset"
setup_text_of setup.IncorrectPassword = codes "incorrect password"
setup_text_of setup.NoCrossfade = codes "no crossfade here"
setup_text_of setup.NoMixramp = codes "no mixramp here"
setup_text_of setup.NoNeighbors = codes "No neighbor plugin configured"
setup_text_of setup.NoPicture = codes "No file exists"
setup_text_of setup.NoSuchOutput = codes "No such audio output"
setup_text_of setup.NoSuchPartition = codes "partition does not exist"
setup_text_of setup.OffsetTooLarge = codes "Offset too large"
setup_text_of setup.OnePicture = codes "one picture a command list"
setup_text_of setup.PictureUnread = codes "the picture could not be read"
setup_text_of setup.UnrecognizedGain = codes "Unrecognized replay gain mode"
setup_text_of setup.UnsupportedAttribute = codes "Unsupported attribute"

-- what is told of tags that a client named
abbrev pub tags_text_of : TagsRefusal → List ℕ
tags_text_of tags.ConflictingGroup = codes "Conflicting group"
tags_text_of tags.MissingArguments = codes "Not enough arguments"
tags_text_of tags.TooManyArguments = codes "Too many arguments"
tags_text_of tags.UnknownSubCommand = codes "Unknown sub command"
tags_text_of tags.UnknownTagType = codes "Unknown tag type"

-- what is told of messages from client to client
abbrev pub messages_code_of : MessagesRefusal → AckCode
messages_code_of messages.BadChannelName = Argument
messages_code_of messages.ChannelsFull = Exist
messages_code_of messages.AlreadySubscribed = Exist
messages_code_of messages.NotSubscribed = NoExist
messages_code_of messages.NobodySubscribed = NoExist

abbrev pub messages_text_of : MessagesRefusal → List ℕ
messages_text_of messages.BadChannelName = codes "invalid channel name"
messages_text_of messages.ChannelsFull = codes "subscription list is full"
messages_text_of messages.AlreadySubscribed = codes "already subscribed to this channel"
messages_text_of messages.NotSubscribed = codes "not subscribed to this channel"
messages_text_of messages.NobodySubscribed = codes "nobody is subscribed to this channel"

abbrev pub row_of : CommandRefusal → CommandRow
row_of command.NotAllowedInList = row Argument None (codes "not allowed in a command list")
row_of command.NotInList = row NotList None (codes "not in a command list")
row_of command.WrongCount = record {
  code = Argument;
  number = Some 37;
  text = λ name. quoting (codes "wrong number of arguments for ") (name_text name);
}
row_of (command.BadArgument place) = row Argument (Some 38) (codes "bad argument " ++ decimal place)
row_of command.BadFilter = row Argument (Some 19) (codes "bad filter")
row_of (command.UnknownTag tag) = row Argument (Some 20) (quoting (codes "unknown tag ") tag)
row_of command.FilterTooDeep = row Argument (Some 21) (codes "filter too deep")
row_of command.BadIndex = row Argument (Some 22) (codes "Bad song index")
row_of command.BadPlaylistName = row Argument (Some 26) (codes "bad playlist name")
row_of command.BadStickerName = row Argument (Some 31) (codes "bad sticker name")
row_of command.NoSuchUri = row NoExist (Some 17) (codes "No such file or directory")
row_of command.NoSuchSong = row NoExist (Some 23) (codes "No such song")
row_of command.NoSuchPlaylist = row NoExist (Some 27) (codes "No such playlist")
row_of command.NoSuchSticker = row NoExist (Some 30) (codes "no such sticker")
row_of command.NotPlaying = row PlayerSync (Some 33) (codes "Not playing")
row_of command.NoCurrentSong = row PlayerSync None (codes "No current song")
row_of command.PlaylistExists = row Exist (Some 28) (codes "Playlist already exists")
row_of command.AlreadyUpdating = row UpdateAlready None (codes "already updating")
row_of command.UpdatesFull = row UpdateAlready None (codes "Update queue is full")
row_of command.QueueFull = row PlaylistMax (Some 24) (codes "Queue is full")
row_of command.IdsSpent = row PlaylistMax (Some 25) (codes "Song ids are spent")
row_of command.PlaylistsFull = row PlaylistMax (Some 29) (codes "Too many playlists or entries")
row_of command.StickersFull = row System (Some 32) (codes "Too many stickers")
row_of command.RequestTooLarge = row System None (codes "request too large")
row_of command.DiskFull = row System None (codes "disk full")
row_of command.OutOfMemory = row System (Some 7) (codes "out of memory")
row_of (command.Setup refusal) = row (setup_code_of refusal) None (setup_text_of refusal)
row_of (command.Tags refusal) = row Argument None (tags_text_of refusal)
row_of (command.Messages refusal) = row (messages_code_of refusal) None (messages_text_of refusal)

abbrev pub command_code_of : CommandRefusal → AckCode
command_code_of refusal = (row_of refusal).code

abbrev pub command_number_of : CommandRefusal → Option ℕ
command_number_of refusal = (row_of refusal).number

abbrev pub command_text_of : CommandName → CommandRefusal → List ℕ
command_text_of name refusal = (row_of refusal).text name

abbrev pub code_of : Refusal → AckCode
code_of line.InvalidUtf8 = Argument
code_of line.BadQuoting = Argument
code_of line.NoCommand = Unknown
code_of (line.UnknownCommand word) = Unknown
code_of line.OutOfMemory = System
code_of (line.OfCommand name refusal) = command_code_of refusal

abbrev pub text_of : Refusal → List ℕ
text_of line.InvalidUtf8 = codes "invalid UTF-8"
text_of line.BadQuoting = codes "bad quoting"
text_of line.NoCommand = codes "No command given"
text_of (line.UnknownCommand word) = quoting (codes "unknown command ") word
text_of line.OutOfMemory = codes "out of memory"
text_of (line.OfCommand name refusal) = command_text_of name refusal

-- the command that the braces name; none where the line is no command
abbrev pub name_of_refusal : Refusal → Option CommandName
name_of_refusal line.InvalidUtf8 = None
name_of_refusal line.BadQuoting = None
name_of_refusal line.NoCommand = None
name_of_refusal (line.UnknownCommand word) = None
name_of_refusal line.OutOfMemory = None
name_of_refusal (line.OfCommand name refusal) = Some name

-- what the braces hold
abbrev pub braces : Option CommandName → List ℕ
braces None = []
braces (Some name) = name_text name

-- the number of a refusal, where it has one
abbrev pub number_of_refusal : Refusal → Option ℕ
number_of_refusal line.InvalidUtf8 = None
number_of_refusal line.BadQuoting = Some 35
number_of_refusal line.NoCommand = None
number_of_refusal (line.UnknownCommand word) = Some 36
number_of_refusal line.OutOfMemory = Some 7
number_of_refusal (line.OfCommand name refusal) = command_number_of refusal

abbrev pub number_of_error : ReadError → Option ℕ
number_of_error (errors.Refused refusal) = number_of_refusal refusal
number_of_error errors.NoMemory = Some 7
