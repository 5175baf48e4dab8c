-- The commands of the player.
use Rattle.std.specs.Prelude.{ℕ, List, Option, Result, Ok}
use Rattle.std.specs.Option.{option_map}
use Rattle.player_core.specs.declared.selector.Selector.TheVariants.{Position, Id}
use Rattle.command_text.specs.declared.command.playing.PlayingCommand.{PlayingCommand}
use Rattle.command_text.specs.declared.command.playing.PlayingCommand.TheVariants as commands
use Rattle.command_text.specs.declared.refusal.CommandRefusal.{CommandRefusal}
use Rattle.command_text.specs.declared.topic.PlayingName.{PlayingName}
use Rattle.command_text.specs.declared.topic.PlayingName.TheVariants as names
use Rattle.command_text.specs.Arguments.{number_of, switch_of, time_of, seek_time_of}
use Rattle.command_text.specs.Counts.{◌>>=◌, Word, no_argument, optional_argument, one_argument, two_arguments, argument, optional}
use Rattle.command_text.specs.Counts.{unless_minus_one}

-- a position or an id, and `-1` for none
unfoldable pub selected : List Word → Result (Option ℕ) CommandRefusal
selected words = optional_argument words >>= λ word. optional 1 number_of (unless_minus_one word)

-- a position or an id, and a time in milliseconds
unfoldable pub number_and_time : List Word → Result (ℕ × ℕ) CommandRefusal
number_and_time words = do
  given ← two_arguments words
  number ← argument 1 (number_of given.0)
  time ← argument 2 (time_of given.1)
  Ok (number, time)

unfoldable pub playing_of : PlayingName → List Word → Result PlayingCommand CommandRefusal
playing_of names.ClearError words = no_argument commands.ClearError words
playing_of names.CurrentSong words = no_argument commands.CurrentSong words
playing_of names.Next words = no_argument commands.Next words
playing_of names.Pause words = do
  word ← optional_argument words
  on ← optional 1 switch_of word
  Ok (commands.Pause on)
playing_of names.Play words = selected words >>= λ position. Ok (commands.Play (option_map Position position))
playing_of names.PlayId words = selected words >>= λ id. Ok (commands.Play (option_map Id id))
playing_of names.Previous words = no_argument commands.Previous words
playing_of names.Seek words = number_and_time words >>= λ x. Ok (commands.Seek (Position x.0) x.1)
playing_of names.SeekCurrent words = do
  word ← one_argument words
  time ← argument 1 (seek_time_of word)
  Ok (commands.SeekCurrent time)
playing_of names.SeekId words = number_and_time words >>= λ x. Ok (commands.Seek (Id x.0) x.1)
playing_of names.Stop words = no_argument commands.Stop words
