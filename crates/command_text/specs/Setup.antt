-- The commands of what a daemon is set up with: outputs, decoders, partitions and the like.
-- Of each there is one that stays as it is, or none.
use Rattle.std.specs.Prelude.{ℕ, ◌==◌, ◌||◌, nat_le, List, [], ◌∷◌, length, Bool, Option, Some, None, Result, Ok, Err, codes}
use Rattle.std.specs.Prelude.{if◌then◌else◌}
use Rattle.std.specs.Str.{bytes_eq}
use Rattle.command_text.specs.declared.command.setup.SetupCommand.{SetupCommand}
use Rattle.command_text.specs.declared.command.setup.SetupCommand.TheVariants as commands
use Rattle.command_text.specs.declared.refusal.CommandRefusal.{CommandRefusal}
use Rattle.command_text.specs.declared.refusal.CommandRefusal.TheVariants.{WrongCount, BadArgument, Setup}
use Rattle.command_text.specs.declared.refusal.SetupRefusal.{SetupRefusal}
use Rattle.command_text.specs.declared.refusal.SetupRefusal.TheVariants as refusals
use Rattle.command_text.specs.declared.topic.SetupName.{SetupName}
use Rattle.command_text.specs.declared.topic.SetupName.TheVariants as names
use Rattle.command_text.specs.Arguments.{number_to}
use Rattle.command_text.specs.Counts.{Word}

-- how many arguments each takes
abbrev pub setup_count : SetupName → ℕ
setup_count names.Decoders = 0
setup_count names.ListMounts = 0
setup_count names.ListNeighbors = 0
setup_count names.ListPartitions = 0
setup_count names.Outputs = 0
setup_count names.ReplayGainStatus = 0
setup_count names.UrlHandlers = 0
setup_count names.SetOutput = 3
setup_count name = 1

-- how many bytes of a picture an answer may have: 64 to 8400896
abbrev pub limited : Option ℕ → Result SetupCommand CommandRefusal
limited None = Err (BadArgument 1)
limited (Some limit) = if nat_le 64 limit then Ok (commands.BinaryLimit limit) else Err (BadArgument 1)

abbrev pub limit_of : Word → Result SetupCommand CommandRefusal
limit_of word = limited (number_to 8400896 word)

-- nothing is to be done, or it is refused
abbrev pub if_so : Bool → SetupRefusal → Result SetupCommand CommandRefusal
if_so holds refusal = if holds then Ok commands.Nothing else Err (Setup refusal)

-- what is refused of the only output, which is 0, and of each other one, since there is none
abbrev pub of_output : Word → SetupRefusal → Result SetupCommand CommandRefusal
of_output id refusal = Err (Setup (if bytes_eq id (codes "0") then refusal else refusals.NoSuchOutput))

-- 0 decibels, as clients spell it
abbrev pub is_no_gain : Word → Bool
is_no_gain word = bytes_eq word (codes "0") || bytes_eq word (codes "0.000000")

-- the command of this name with as many arguments as it takes, of which the first is this
abbrev pub setup_for : SetupName → Word → Result SetupCommand CommandRefusal
setup_for names.BinaryLimit word = limit_of word
setup_for names.Crossfade word = if_so (bytes_eq word (codes "0")) refusals.NoCrossfade
setup_for names.Decoders word = Ok commands.Decoders
setup_for names.DisableOutput word = of_output word refusals.AlwaysOn
setup_for names.EnableOutput word = if_so (bytes_eq word (codes "0")) refusals.NoSuchOutput
setup_for names.ListMounts word = Ok commands.Mounts
setup_for names.ListNeighbors word = Err (Setup refusals.NoNeighbors)
setup_for names.ListPartitions word = Ok commands.Partitions
setup_for names.MixrampDb word = if_so (is_no_gain word) refusals.NoMixramp
setup_for names.MixrampDelay word = if_so (bytes_eq word (codes "nan")) refusals.NoMixramp
setup_for names.Outputs word = Ok commands.Outputs
setup_for names.SetOutput word = of_output word refusals.UnsupportedAttribute
setup_for names.Partition word = if_so (bytes_eq word (codes "default")) refusals.NoSuchPartition
setup_for names.Password word = Err (Setup refusals.IncorrectPassword)
setup_for names.ReadComments word = Ok commands.Nothing
setup_for names.ReplayGainMode word = if_so (bytes_eq word (codes "off")) refusals.UnrecognizedGain
setup_for names.ReplayGainStatus word = Ok commands.ReplayGain
setup_for names.ToggleOutput word = of_output word refusals.AlwaysOn
setup_for names.UrlHandlers word = Ok commands.Nothing

-- the first argument, empty where there is none
abbrev pub first_word : List Word → Word
first_word [] = []
first_word (word ∷ words) = word

-- the count of arguments is looked at first
unfoldable pub setup_of : SetupName → List Word → Result SetupCommand CommandRefusal
setup_of name words = if length words == setup_count name then setup_for name (first_word words) else Err WrongCount
