-- The command that words or a line ask for, or the first refusal in the one order of refusals: bytes that are no text, bad quoting, no
-- word, an unknown command, not allowed where it stands, the count of arguments, and the arguments from left to right.
use Rattle.std.specs.Prelude.{◌≡◌, ℕ, List, [], ◌∷◌, Bool, true, false, Option, Some, None, Result, Ok, Err, if◌then◌else◌}
use Rattle.std.specs.Global.{Vec}
use Rattle.std.specs.Str.{is_utf8}
use Rattle.profile.specs.declared.profile.Profile.{Profile}
use Rattle.command_text.specs.declared.name.CommandName.{CommandName}
use Rattle.command_text.specs.declared.name.CommandName.TheVariants as names
use Rattle.command_text.specs.declared.command.Command.{Command}
use Rattle.command_text.specs.declared.command.Command.TheVariants as commands
use Rattle.command_text.specs.declared.command.NamedCommand.{NamedCommand}
use Rattle.command_text.specs.declared.place.Place.{Place}
use Rattle.command_text.specs.declared.place.Place.TheVariants.{Alone, InList}
use Rattle.command_text.specs.declared.refusal.CommandRefusal.{CommandRefusal}
use Rattle.command_text.specs.declared.refusal.CommandRefusal.TheVariants as refusals
use Rattle.command_text.specs.declared.refusal.Refusal.{Refusal}
use Rattle.command_text.specs.declared.refusal.Refusal.TheVariants.{InvalidUtf8, BadQuoting, NoCommand, UnknownCommand, OutOfMemory}
use Rattle.command_text.specs.declared.refusal.Refusal.TheVariants.{OfCommand}
use Rattle.command_text.specs.declared.refusal.ReadError.{ReadError}
use Rattle.command_text.specs.declared.refusal.ReadError.TheVariants as errors
use Rattle.command_text.specs.declared.stop.Stop.{Stop}
use Rattle.command_text.specs.declared.stop.Stop.TheVariants as stops
use Rattle.command_text.specs.declared.topic.Topic.{Topic}
use Rattle.command_text.specs.declared.topic.Topic.TheVariants as topics
use Rattle.command_text.specs.Words.{words_of}
use Rattle.command_text.specs.Names.{named, stands_in_lists, topic_of}
use Rattle.command_text.specs.Counts.{◌>>=◌, Word}
use Rattle.command_text.specs.Settings.{settings_of}
use Rattle.command_text.specs.Database.{database_of, keeps_place}
use Rattle.command_text.specs.Queue.{queue_of, keeps_many}
use Rattle.command_text.specs.Finding.{finding_of}
use Rattle.command_text.specs.Lists.{lists_of}
use Rattle.command_text.specs.Stickers.{stickers_of}
use Rattle.command_text.specs.Messages.{messages_of}
use Rattle.command_text.specs.Playing.{playing_of}
use Rattle.command_text.specs.Session.{session_of}
use Rattle.command_text.specs.Setup.{setup_of}
use Rattle.command_text.specs.Pictures.{pictures_of}

-- the command of a topic with these arguments: their count, and then each from left to right
unfoldable pub command_with : Profile → Topic → List Word → Result Command CommandRefusal
command_with profile (topics.Settings name) words = settings_of name words >>= λ x. Ok (commands.Settings x)
command_with profile (topics.Database name) words = database_of profile name words >>= λ x. Ok (commands.Database x)
command_with profile (topics.Queue name) words = queue_of profile name words >>= λ x. Ok (commands.Queue x)
command_with profile (topics.Finding name) words = finding_of profile name words >>= λ x. Ok (commands.Finding x)
command_with profile (topics.Lists name) words = lists_of profile name words >>= λ x. Ok (commands.Lists x)
command_with profile (topics.Stickers name) words = stickers_of name words >>= λ x. Ok (commands.Stickers x)
command_with profile (topics.Messages name) words = messages_of name words >>= λ x. Ok (commands.Messages x)
command_with profile (topics.Playing name) words = playing_of name words >>= λ x. Ok (commands.Playing x)
command_with profile (topics.Session name) words = session_of name words >>= λ x. Ok (commands.Session x)
command_with profile (topics.Setup name) words = setup_of name words >>= λ x. Ok (commands.Setup x)
command_with profile (topics.Pictures name) words = pictures_of name words >>= λ x. Ok (commands.Pictures x)

-- the end of a list stands behind a list's commands alone, and some commands stand in no list
abbrev pub is_allowed : Place → CommandName → Result (Unit {0}) CommandRefusal
is_allowed Alone names.CommandListEnd = Err refusals.NotInList
is_allowed Alone name = Ok tt
is_allowed InList name = if stands_in_lists name then Ok tt else Err refusals.NotAllowedInList

-- the command of a name in a place, with these arguments
unfoldable pub in_place : Profile → Place → CommandName → List Word → Result Command CommandRefusal
in_place profile place name words = do
  here ← is_allowed place name
  command_with profile (topic_of name) words

-- the command or its refusal, with the name
abbrev pub of_command : CommandName → Result Command CommandRefusal → Result NamedCommand Refusal
of_command name (Ok command) = Ok (record { name = name; command = command })
of_command name (Err refusal) = Err (OfCommand name refusal)

-- the command of a first word, of which it is known whether it is a name
abbrev pub known_command : Profile → Place → Word → List Word → Option CommandName → Result NamedCommand Refusal
known_command profile place word arguments None = Err (UnknownCommand word)
known_command profile place word arguments (Some name) = of_command name (in_place profile place name arguments)

-- the command of the words of a line
unfoldable pub command_of : Profile → Place → List Word → Result NamedCommand Refusal
command_of profile place [] = Err NoCommand
command_of profile place (word ∷ arguments) = known_command profile place word arguments (named profile word)

abbrev pub quoted : Option (List Word) → Result (List Word) Refusal
quoted None = Err BadQuoting
quoted (Some words) = Ok words

-- the words of a line that is text
unfoldable pub line_words : List ℕ → Result (List Word) Refusal
line_words line = if is_utf8 line then quoted (words_of line) else Err InvalidUtf8

abbrev pub command_in : Profile → Place → Result (List Word) Refusal → Result NamedCommand Refusal
command_in profile place (Err refusal) = Err refusal
command_in profile place (Ok words) = command_of profile place words

-- the command of a line
unfoldable pub line_reading : Profile → Place → List ℕ → Result NamedCommand Refusal
line_reading profile place line = command_in profile place (line_words line)

-- the name of the command that a line begins with; none where the line is refused for its bytes, its quoting or its first word
abbrev pub first_name : Profile → Result (List Word) Refusal → Option CommandName
first_name profile (Err refusal) = None
first_name profile (Ok []) = None
first_name profile (Ok (word ∷ words)) = named profile word

unfoldable pub name_of_line : Profile → List ℕ → Option CommandName
name_of_line profile line = first_name profile (line_words line)

-- how want of memory is answered at a command, by its name, and at a line that is no command
abbrev pub want_of_memory : Option CommandName → Refusal
want_of_memory None = OutOfMemory
want_of_memory (Some name) = OfCommand name refusals.OutOfMemory

-- a call answered what is to be read, or found no memory
abbrev pub Gives : {A : Type 0} → Result A ReadError → Result A Refusal → Type 0
Gives (Ok value) read = read ≡ Ok value
Gives (Err (errors.Refused refusal)) read = read ≡ Err refusal
Gives (Err errors.NoMemory) read = Unit {0}

-- the commands that may want memory: those with a filter, a tag, a scanned place, or as many ranges or ids as are given
abbrev pub takes_memory : Topic → Bool
takes_memory (topics.Settings name) = false
takes_memory (topics.Database name) = keeps_place name
takes_memory (topics.Queue name) = keeps_many name
takes_memory (topics.Finding name) = true
takes_memory (topics.Lists name) = false
takes_memory (topics.Stickers name) = false
takes_memory (topics.Messages name) = false
takes_memory (topics.Playing name) = false
takes_memory (topics.Session name) = false
takes_memory (topics.Setup name) = false
takes_memory (topics.Pictures name) = false

abbrev pub may_take_memory : Option CommandName → Bool
may_take_memory None = true
may_take_memory (Some name) = takes_memory (topic_of name)

-- memory may be wanting: for the word of an unknown command, or by a command of such a topic
abbrev pub MayWantMemory : Profile → List Word → Type 0
MayWantMemory profile [] = ⊥
MayWantMemory profile (word ∷ words) = may_take_memory (named profile word) ≡ true

-- the refusal of an unknown command, or no memory for a copy of its word
abbrev pub TellsUnknown : Word → ReadError → Type 0
TellsUnknown word (errors.Refused refusal) = refusal ≡ UnknownCommand word
TellsUnknown word errors.NoMemory = Unit {0}

-- why words gave no command of this name
abbrev pub error_of : CommandName → Stop → ReadError
error_of name (stops.Refused refusal) = errors.Refused (OfCommand name refusal)
error_of name stops.NoMemory = errors.NoMemory

-- words were read, or no memory was found
abbrev pub GivesWords : Result (Vec Word) ReadError → Result (List Word) Refusal → Type 0
GivesWords (Ok words) read = read ≡ Ok words.items
GivesWords (Err (errors.Refused refusal)) read = read ≡ Err refusal
GivesWords (Err errors.NoMemory) read = Unit {0}
