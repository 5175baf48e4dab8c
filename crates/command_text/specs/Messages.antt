-- The commands of messages from client to client.
use Rattle.std.specs.Prelude.{List, Result, Ok}
use Rattle.command_text.specs.declared.command.messages.MessagesCommand.{MessagesCommand}
use Rattle.command_text.specs.declared.command.messages.MessagesCommand.TheVariants as commands
use Rattle.command_text.specs.declared.refusal.CommandRefusal.{CommandRefusal}
use Rattle.command_text.specs.declared.topic.MessagesName.{MessagesName}
use Rattle.command_text.specs.declared.topic.MessagesName.TheVariants as names
use Rattle.command_text.specs.Arguments.{text_of}
use Rattle.command_text.specs.Counts.{◌>>=◌, Word, argument, no_argument, one_argument, two_arguments}

-- a channel, whatever its name
unfoldable pub channel_of : List Word → Result Word CommandRefusal
channel_of words = one_argument words >>= λ channel. argument 1 (text_of channel)

-- a channel and a text
unfoldable pub message_of : List Word → Result MessagesCommand CommandRefusal
message_of words = do
  x ← two_arguments words
  channel ← argument 1 (text_of x.0)
  text ← argument 2 (text_of x.1)
  Ok (commands.SendMessage channel text)

unfoldable pub messages_of : MessagesName → List Word → Result MessagesCommand CommandRefusal
messages_of names.Channels words = no_argument commands.Channels words
messages_of names.ReadMessages words = no_argument commands.ReadMessages words
messages_of names.SendMessage words = message_of words
messages_of names.Subscribe words = channel_of words >>= λ channel. Ok (commands.Subscribe channel)
messages_of names.Unsubscribe words = channel_of words >>= λ channel. Ok (commands.Unsubscribe channel)
