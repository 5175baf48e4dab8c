-- A request's commands, one after the other.
use Rattle.std.specs.Prelude.{ℕ, suc, ◌+◌, ◌==◌, List, [], ◌∷◌, ◌++◌, length, Bool, true, false, Option, Some, None, Result, Ok, Err}
use Rattle.std.specs.Prelude.{if◌then◌else◌}
use Rattle.client_messages.specs.declared.listener.Listener.{Listener}
use Rattle.command_text.specs.Answer.{ok, list_ok, ack}
use Rattle.command_text.specs.Reading.{line_reading, name_of_line, want_of_memory}
use Rattle.command_text.specs.declared.command.Command.{Command}
use Rattle.command_text.specs.declared.command.Command.TheVariants as commands
use Rattle.command_text.specs.declared.command.NamedCommand.{NamedCommand}
use Rattle.command_text.specs.declared.command.session.SessionCommand.{SessionCommand}
use Rattle.command_text.specs.declared.command.session.SessionCommand.TheVariants as session
use Rattle.command_text.specs.declared.command.settings.SettingsCommand.{SettingsCommand}
use Rattle.command_text.specs.declared.command.settings.SettingsCommand.TheVariants as settings
use Rattle.command_text.specs.declared.name.CommandName.{CommandName}
use Rattle.command_text.specs.declared.place.Place.{Place}
use Rattle.command_text.specs.declared.refusal.CommandRefusal.{CommandRefusal}
use Rattle.command_text.specs.declared.refusal.Refusal.{Refusal}
use Rattle.command_text.specs.declared.refusal.Refusal.TheVariants.{OfCommand}
use Rattle.daemon_core.specs.declared.view.View.{View}
use Rattle.idle_masks.specs.Subsystems.{none, union}
use Rattle.idle_masks.specs.declared.subsystem.Subsystems.{Subsystems}
use Rattle.machine_core.specs.Changed.{changed}
use Rattle.machine_core.specs.Command.{meaning}
use Rattle.machine_core.specs.Keeping.{kept}
use Rattle.machine_core.specs.Looks.{looked, looks_of, max_looks, weighed}
use Rattle.machine_core.specs.Meaning.{Meaning, Meant}
use Rattle.machine_core.specs.Room.{under_room}
use Rattle.machine_core.specs.Size.{within_room}
use Rattle.machine_core.specs.State.{MachineState}
use Rattle.state_codec.specs.Sealed.{checksum_len}
use Rattle.state_codec.specs.Spelling.{ops_bytes}
use Rattle.state_codec.specs.declared.op.Op.{Op}
use Rattle.daemon_core.specs.Pictures.{shown}
use Rattle.daemon_core.specs.Talk.{Talk, silent, talk_of}
use Rattle.daemon_core.specs.Views.{view_behind}
use Rattle.daemon_core.specs.declared.picture.PictureTold.{PictureTold}
use Rattle.daemon_core.specs.declared.outcome.Ending.{Ending}
use Rattle.daemon_core.specs.declared.outcome.Ending.TheVariants.{Answered, Closed, Killed, Waits}

-- who asks: a client, and the picture that was read for it
pub record Asker : Type 0 where
  pub client : ℕ
  pub told : Option PictureTold

abbrev pub asker : ℕ → Option PictureTold → Asker
asker c told = record { client = c; told = told }

-- What a command did that went well: its lines, the ops that it made, the machine after it, who has which channels and what each hasn't
-- read, the subsystems that it changed, and the clients that it notified of a message.
pub record Done : Type 0 where
  pub text : List ℕ
  pub ops : List Op
  pub after : MachineState
  pub messages : List Listener
  pub changed : Subsystems
  pub notified : List ℕ

-- what one command did: it went well, or was refused, or ended the request
pub data Did : Type 0 where
  Goes : (done : Done) → Did
  Refuses : (refusal : Refusal) → Did
  Ends : (ending : Ending) → Did

abbrev pub settings_ending : SettingsCommand → Option Ending
settings_ending settings.Close = Some Closed
settings_ending settings.Kill = Some Killed
settings_ending command = None

abbrev pub session_ending : SessionCommand → Option Ending
session_ending (session.Idle mask) = Some (Waits mask)
session_ending command = None

-- how a command ends its request, if it does
unfoldable pub ending_of : Command → Option Ending
ending_of (commands.Settings command) = settings_ending command
ending_of (commands.Session command) = session_ending command
ending_of command = None

-- a command of the machine leaves the messages
abbrev pub done_of : MachineState → List Listener → Meaning → Done
done_of m messages x =
    record { text = x.text; ops = x.ops; after = x.after; messages = messages; changed = changed m x.after; notified = [] }

-- a command of messages or of pictures leaves the machine
abbrev pub talk_done : MachineState → Talk → Done
talk_done m talk = record {
  text = talk.text;
  ops = [];
  after = m;
  messages = talk.messages;
  changed = talk.changed;
  notified = talk.notified;
}

abbrev pub machine_does : MachineState → List Listener → Meant → Result Done CommandRefusal
machine_does m messages (Ok x) = Ok (done_of m messages x)
machine_does m messages (Err refusal) = Err refusal

abbrev pub talk_does : MachineState → Result Talk CommandRefusal → Result Done CommandRefusal
talk_does m (Ok talk) = Ok (talk_done m talk)
talk_does m (Err refusal) = Err refusal

abbrev pub either_does : MachineState → List Listener → Option (Result Talk CommandRefusal) → Meant → Result Done CommandRefusal
either_does m messages None meant = machine_does m messages meant
either_does m messages (Some talked) meant = talk_does m talked

abbrev pub did_of : CommandName → Result Done CommandRefusal → Did
did_of name (Ok x) = Goes x
did_of name (Err refusal) = Refuses (OfCommand name refusal)

abbrev pub unless_it_ends : Option Ending → Did → Did
unless_it_ends None did = did
unless_it_ends (Some ending) did = Ends ending

-- What the commands of a request hand on to the next one: what they have spent of what it may, the bytes of a record of their ops, and how
-- much they have looked at; how the client is told; and who has which channels and what each hasn't read.
pub record Spent : Type 0 where
  pub size : ℕ
  pub looks : ℕ
  pub view : View
  pub messages : List Listener

abbrev pub spent_of : ℕ → ℕ → View → List Listener → Spent
spent_of size looks view messages = record { size = size; looks = looks; view = view; messages = messages }

-- the record of a request begins with what stands behind its ops
abbrev pub unspent : MachineState → View → List Listener → Spent
unspent m view messages = spent_of (checksum_len m.saved.profile) 0 view messages

-- what a command means, where there is room for what it changes, within what is left of both, with what is kept of the player and of the
-- playlists' times behind it
abbrev pub within_both : Spent → Command → MachineState → Meant
within_both spent command m =
    kept m (within_room m.saved.profile spent.size
    (weighed m.saved.profile spent.looks (looks_of command m) (under_room m (meaning spent.view.tags command m))))

-- a command of pictures tells its lines, and leaves the messages
abbrev pub shows : List Listener → Result (List ℕ) CommandRefusal → Result Talk CommandRefusal
shows messages (Ok text) = Ok (record (silent messages) { text = text })
shows messages (Err refusal) = Err refusal

-- what a command does that the daemon performs, and not the machine, if it is one of those
unfoldable pub own_of : Asker → Spent → Command → MachineState → Option (Result Talk CommandRefusal)
own_of a spent (commands.Pictures command) m = Some (shows spent.messages (shown spent.view.limit a.told m.saved.songs command))
own_of a spent command m = talk_of a.client spent.messages command

-- what a command of this client does that doesn't end its request
unfoldable pub done_by : Asker → Spent → Command → MachineState → Result Done CommandRefusal
done_by a spent command m = either_does m spent.messages (own_of a spent command m) (within_both spent command m)

-- what a command of this client does, where those before it have spent so much
unfoldable pub performed : Asker → Spent → NamedCommand → MachineState → Did
performed a spent named m = unless_it_ends (ending_of named.command) (did_of named.name (done_by a spent named.command m))

abbrev pub read_and_performed : Asker → Spent → MachineState → Result NamedCommand Refusal → Did
read_and_performed a spent m (Err refusal) = Refuses refusal
read_and_performed a spent m (Ok named) = performed a spent named m

-- what the line of one command does
unfoldable pub attempted : Asker → Place → Spent → List ℕ → MachineState → Did
attempted a place spent line m = read_and_performed a spent m (line_reading m.saved.profile place line)

abbrev pub looks_read : Result NamedCommand Refusal → MachineState → ℕ
looks_read (Err refusal) m = 0
looks_read (Ok named) m = looks_of named.command m

-- how much the command of a line looks at
unfoldable pub looks_of_line : Place → List ℕ → MachineState → ℕ
looks_of_line place line m = looks_read (line_reading m.saved.profile place line) m

abbrev pub view_read : Result NamedCommand Refusal → View → View
view_read (Err refusal) view = view
view_read (Ok named) view = view_behind named.command view

-- how the client is told behind the command of a line
unfoldable pub view_of_line : Place → List ℕ → MachineState → View → View
view_of_line place line m view = view_read (line_reading m.saved.profile place line) view

-- what is spent behind the command of a line, which makes these ops
abbrev pub spent_behind : Place → List ℕ → MachineState → Spent → List Op → Spent
spent_behind place line m spent ops =
    spent_of (spent.size + length (ops_bytes m.saved.profile ops)) (looked m.saved.profile spent.looks (looks_of_line place line m))
    (view_of_line place line m spent.view) spent.messages

-- What a request did: the machine after it, its answer, the subsystems that one of its commands changed, its ops in order, how
-- it ended, the place of the command that it reached and that was refused memory, if there was one, how much its commands looked at, that
-- at which it ended too, and how its client is told behind it; who has which channels and what each hasn't read behind it, and the
-- clients for which `message` is pending.
pub record Ran : Type 0 where
  pub after : MachineState
  pub text : List ℕ
  pub changed : Subsystems
  pub ops : List Op
  pub ending : Ending
  pub refused_at : Option ℕ
  pub looks : ℕ
  pub view : View
  pub messages : List Listener
  pub notified : List ℕ

-- it ends here, where so much was spent, with this text
abbrev pub ends : MachineState → Spent → List ℕ → Ending → Ran
ends m spent text ending = record {
  after = m;
  text = text;
  changed = none;
  ops = [];
  ending = ending;
  refused_at = None;
  looks = spent.looks;
  view = spent.view;
  messages = spent.messages;
  notified = [];
}

-- It ends here, since the command of this line, in this place, was refused memory: how much it had looked at by then isn't told, and it
-- counts as all that is counted of a request.
abbrev pub wants_memory : MachineState → Spent → ℕ → List ℕ → Ran
wants_memory m spent index line =
    record (ends m spent (ack index (want_of_memory (name_of_line m.saved.profile line))) Answered) {
      refused_at = Some index;
      looks = max_looks;
    }

-- a command that went well, before the rest of the request
abbrev pub preceded : List ℕ → Subsystems → List Op → List ℕ → Ran → Ran
preceded text changes ops notified rest = record {
  after = rest.after;
  text = text ++ rest.text;
  changed = union changes rest.changed;
  ops = ops ++ rest.ops;
  ending = rest.ending;
  refused_at = rest.refused_at;
  looks = rest.looks;
  view = rest.view;
  messages = rest.messages;
  notified = notified ++ rest.notified;
}

-- memory was refused at this command
abbrev pub is_refused_at : Option ℕ → ℕ → Bool
is_refused_at None index = false
is_refused_at (Some place) index = place == index

-- what stands behind each command that went well, where the list asks for it
abbrev pub separator : Bool → List ℕ
separator false = []
separator true = list_ok

-- what is spent behind a command that did this
abbrev pub spent_on : (List Op → Spent) → Done → Spent
spent_on behind x = record (behind x.ops) { messages = x.messages }

-- what follows a command that did this: the rest of the request if it went well
abbrev pub follow : List ℕ → ℕ → (List Op → Spent) → MachineState → (Spent → MachineState → Ran) → Did → Ran
follow separator index behind m rest (Goes x) =
    preceded (x.text ++ separator) x.changed x.ops x.notified (rest (spent_on behind x) x.after)
follow separator index behind m rest (Refuses refusal) = ends m (behind []) (ack index refusal) Answered
follow separator index behind m rest (Ends ending) = ends m (behind []) [] ending

-- The commands of this client from this index on, where those before have spent so much, and memory is refused at one command or at none.
-- Each command that goes well adds its lines and the separator; the first that doesn't ends the request, and what ran before it stays.
unfoldable pub ran : Asker → Place → List ℕ → Option ℕ → ℕ → Spent → List (List ℕ) → MachineState → Ran
ran a place separator refused index spent [] m = ends m spent ok Answered
ran a place separator refused index spent (line ∷ lines) m =
    if is_refused_at refused index then wants_memory m spent index line
    else follow separator index (spent_behind place line m spent) m
    (λ spent after. ran a place separator refused (suc index) spent lines after)
    (attempted a place spent line m)
