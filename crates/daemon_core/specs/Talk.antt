-- The commands of messages from client to client: what each does for the client that asks.
use Rattle.std.specs.Prelude.{ℕ, List, [], Option, Some, None, Result, Ok, Err}
use Rattle.std.specs.List.{flat_map}
use Rattle.client_messages.specs.Listeners.{listener_of, notified, sent, subscribed, unsubscribed, with_all_read}
use Rattle.client_messages.specs.Messages.{message}
use Rattle.client_messages.specs.Names.{channels_in}
use Rattle.client_messages.specs.Refusal.{send_refusal, subscribe_refusal, unsubscribe_refusal}
use Rattle.client_messages.specs.declared.listener.Listener.{Listener}
use Rattle.client_messages.specs.declared.message.Message.{Message}
use Rattle.client_messages.specs.declared.refusal.MessagesError.{MessagesError}
use Rattle.client_messages.specs.declared.refusal.MessagesError.TheVariants as errors
use Rattle.command_text.specs.AnswerNames.{channel_line, message_lines}
use Rattle.command_text.specs.declared.command.Command.{Command}
use Rattle.command_text.specs.declared.command.Command.TheVariants.{Messages as MessagesTopic}
use Rattle.command_text.specs.declared.command.messages.MessagesCommand.{MessagesCommand}
use Rattle.command_text.specs.declared.command.messages.MessagesCommand.TheVariants as commands
use Rattle.command_text.specs.declared.refusal.CommandRefusal.{CommandRefusal}
use Rattle.command_text.specs.declared.refusal.CommandRefusal.TheVariants.{Messages, OutOfMemory}
use Rattle.command_text.specs.declared.refusal.MessagesRefusal.TheVariants as refusals
use Rattle.idle_masks.specs.Subsystems.{none, only}
use Rattle.idle_masks.specs.declared.subsystem.Subsystem.TheVariants.{Subscription}
use Rattle.idle_masks.specs.declared.subsystem.Subsystems.{Subsystems}

-- What such a command does: its lines, who has which channels and what each hasn't read behind it, the subsystems that are pending
-- for every client, and the clients for which `message` is.
pub record Talk : Type 0 where
  pub text : List ℕ
  pub messages : List Listener
  pub changed : Subsystems
  pub notified : List ℕ

-- no line, nothing pending
abbrev pub silent : List Listener → Talk
silent messages = record { text = []; messages = messages; changed = none; notified = [] }

-- how a client is told of a refusal: that nobody has the channel and that nobody has room are one
abbrev pub refusal_of : MessagesError → CommandRefusal
refusal_of errors.BadChannelName = Messages refusals.BadChannelName
refusal_of errors.TooManyChannels = Messages refusals.ChannelsFull
refusal_of errors.AlreadySubscribed = Messages refusals.AlreadySubscribed
refusal_of errors.NotSubscribed = Messages refusals.NotSubscribed
refusal_of errors.NobodySubscribed = Messages refusals.NobodySubscribed
refusal_of errors.NobodyHasRoom = Messages refusals.NobodySubscribed
refusal_of errors.NoMemory = OutOfMemory

abbrev pub unless_refused : Option MessagesError → Talk → Result Talk CommandRefusal
unless_refused None talk = Ok talk
unless_refused (Some error) talk = Err (refusal_of error)

-- the lines of one message
abbrev pub lines_of : Message → List ℕ
lines_of m = message_lines m.channel m.text

-- the lines of what the client hasn't read, oldest first
abbrev pub unread_lines : List Listener → ℕ → List ℕ
unread_lines messages c = let l = listener_of messages c in flat_map lines_of l.unread

-- Reading leaves pending what is pending: a client that has read before it idles is told all the same.
unfoldable pub talked : ℕ → List Listener → MessagesCommand → Result Talk CommandRefusal
talked c ms commands.Channels = Ok (record (silent ms) { text = flat_map channel_line (channels_in ms) })
talked c ms commands.ReadMessages = Ok (record (silent (with_all_read ms c)) { text = unread_lines ms c })
talked c ms (commands.SendMessage channel text) =
    unless_refused (send_refusal ms (message channel text))
    (record (silent (sent ms (message channel text))) { notified = notified ms (message channel text) })
talked c ms (commands.Subscribe channel) =
    unless_refused (subscribe_refusal ms c channel) (record (silent (subscribed ms c channel)) { changed = only Subscription })
talked c ms (commands.Unsubscribe channel) =
    unless_refused (unsubscribe_refusal ms c channel) (record (silent (unsubscribed ms c channel)) { changed = only Subscription })

-- what a command does of messages, if it is one of theirs
unfoldable pub talk_of : ℕ → List Listener → Command → Option (Result Talk CommandRefusal)
talk_of c ms (MessagesTopic command) = Some (talked c ms command)
talk_of c ms command = None
