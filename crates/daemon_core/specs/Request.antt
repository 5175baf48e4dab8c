-- What the code of a request does, line by line.
use Rattle.std.specs.Prelude.{◌≡◌, ℕ, ◌+◌, ◌<◌, ◌≤◌, List, [], ◌++◌, length, Option, Some, None, Result, Ok, Err, IfSome}
use Rattle.std.specs.Prelude.{vec_capacity, vec_len}
use Rattle.std.specs.Prelude.{Bool, true, false}
use Rattle.std.specs.Global.{Vec}
use Rattle.std.specs.Option.{option_copied}
use Rattle.command_text.specs.Answer.{ack}
use Rattle.command_text.specs.Reading.{name_of_line, want_of_memory}
use Rattle.command_text.specs.declared.place.Place.{Place}
use Rattle.command_text.specs.declared.refusal.CommandRefusal.{CommandRefusal}
use Rattle.command_text.specs.declared.refusal.ReadError.{ReadError}
use Rattle.command_text.specs.declared.refusal.ReadError.TheVariants as errors
use Rattle.daemon_core.specs.declared.view.View.{View}
use Rattle.idle_masks.specs.declared.subsystem.Subsystems.{Subsystems}
use Rattle.machine_core.specs.Front.{SameFront}
use Rattle.machine_core.specs.Looks.{max_looks}
use Rattle.machine_core.specs.State.{MachineState}
use Rattle.machine_core.specs.Work.{AddsNothing, AddsText, HasRoom, ack_room, command_room}
use Rattle.machine_core.specs.declared.work.Failure.{Failure}
use Rattle.machine_core.specs.declared.work.Failure.TheVariants as failures
use Rattle.machine_core.specs.declared.work.Work.{Work}
use Rattle.profile.specs.declared.profile.Profile.{Profile}
use Rattle.state_codec.specs.Spelling.{ops_bytes}
use Rattle.state_codec.specs.declared.op.Op.{Op}
use Rattle.daemon_core.specs.Run.{Asker, Did, Done, Goes, Refuses, Ends, Ran, asker, ran, spent_of}
use Rattle.daemon_core.specs.Talking.{IsSame}
use Rattle.daemon_core.specs.declared.talk.Talks.{Talks}
use Rattle.daemon_core.specs.declared.outcome.Ending.{Ending}
use Rattle.daemon_core.specs.declared.handled.Handled.{Handled}
use Rattle.daemon_core.specs.declared.outcome.Ending.TheVariants.{Answered, Closed, Killed, Waits}
use Rattle.daemon_core.specs.declared.outcome.Output.{Output}
use Rattle.daemon_core.specs.declared.request.Asked.{Asked}
use Rattle.daemon_core.specs.declared.request.RequestEnd.{RequestEnd}
use Rattle.daemon_core.specs.declared.request.Stop.{Stop}
use Rattle.daemon_core.specs.declared.request.Stop.TheVariants as stops

-- who asks, of one who asks in a place
abbrev pub asker_of : Asked → Asker
asker_of asked = asker asked.client (option_copied asked.told)

-- whether the daemon ends
abbrev pub is_kill : Ending → Bool
is_kill Answered = false
is_kill Closed = false
is_kill Killed = true
is_kill (Waits mask) = false

-- what a request did that ended so, with these outputs, clients that are closed and ops
abbrev pub handled_by : RequestEnd → Vec Output → Vec ℕ → Vec Op → Handled
handled_by end outputs closes ops = record {
  outcome = record {
    outputs = outputs;
    closes = closes;
    ops = ops;
    refused_at = end.refused_at;
    looks = end.looks;
    ended = is_kill end.ending;
  };
  changed = end.changed;
}

-- why a line that wasn't read stops its request
abbrev pub stop_of_reading : ReadError → Stop
stop_of_reading (errors.Refused refusal) = stops.Refused refusal
stop_of_reading errors.NoMemory = stops.NoMemory

-- what a request did, as it stands behind its last command
abbrev pub ran_of : MachineState → Talks → Work → RequestEnd → Ran
ran_of m talks work end = record {
  after = m;
  text = work.text.items;
  changed = end.changed;
  ops = work.ops.items;
  ending = end.ending;
  refused_at = end.refused_at;
  looks = end.looks;
  view = end.view;
  messages = talks.messages;
  notified = talks.notified.items;
}

-- A command that doesn't end its request did what it does, and there is room for what ends a command. Of its lines those may be missing
-- that aren't given out.
pub record IsPerformed
    (does : Result Done CommandRefusal) (before after : MachineState) (talks talked : Talks) (work done : Work) (set : Subsystems)
    : Type 0 where
  pub what : Done
  pub is : does ≡ Ok what
  pub stands : after ≡ what.after
  pub messages : talked.messages ≡ what.messages
  pub notified : talked.notified.items ≡ talks.notified.items ++ what.notified
  pub text : SameFront done.text.items (work.text.items ++ what.text)
  pub ops : done.ops.items ≡ work.ops.items ++ what.ops
  pub size : done.size ≡ work.size + length (ops_bytes before.saved.profile what.ops)
  pub changed : set ≡ what.changed
  pub room : HasRoom command_room done

-- it was refused as it must be, or found no memory
abbrev pub IsRefusalBy : Result Done CommandRefusal → Failure → Type 0
IsRefusalBy does (failures.Refused refusal) = does ≡ Err refusal
IsRefusalBy does failures.NoMemory = Unit {0}

-- it failed, and nothing was changed
pub record IsNotPerformed
    (does : Result Done CommandRefusal) (before after : MachineState) (talks talked : Talks) (work done : Work) (failure : Failure)
    : Type 0 where
  pub stands : after ≡ before
  pub same : IsSame talks talked
  pub nothing : AddsNothing work done
  pub refusal : IsRefusalBy does failure

abbrev pub RunsCommand :
    Result Done CommandRefusal → MachineState → MachineState → Talks → Talks → Work → Work → Result Subsystems Failure → Type 0
RunsCommand does before after talks talked work done (Ok set) = IsPerformed does before after talks talked work done set
RunsCommand does before after talks talked work done (Err failure) = IsNotPerformed does before after talks talked work done failure

-- The command of a line did what it does: its ops were added, its lines and the separator, of which those may be missing that aren't given
-- out, and there is room for what ends a request.
pub record WentOn
    (separator : List ℕ) (did : Did) (before after : MachineState) (talks talked : Talks) (work done : Work) (set : Subsystems)
    : Type 0 where
  pub what : Done
  pub is : did ≡ Goes what
  pub stands : after ≡ what.after
  pub messages : talked.messages ≡ what.messages
  pub notified : talked.notified.items ≡ talks.notified.items ++ what.notified
  pub text : SameFront done.text.items (work.text.items ++ (what.text ++ separator))
  pub ops : done.ops.items ≡ work.ops.items ++ what.ops
  pub size : done.size ≡ work.size + length (ops_bytes before.saved.profile what.ops)
  pub changed : set ≡ what.changed
  pub room : HasRoom ack_room done

-- why a command that did this stops its request; or it found no memory
abbrev pub IsStop : Did → Stop → Type 0
IsStop did (stops.Ends ending) = did ≡ Ends ending
IsStop did (stops.Refused refusal) = did ≡ Refuses refusal
IsStop did stops.NoMemory = Unit {0}

-- nothing was added to what is given out of the answer, which may be cut to that; memory that was taken may stay
pub record TellsNothing (before after : Work) : Type 0 where
  pub text : SameFront after.text.items before.text.items
  pub shorter : vec_len after.text ≤ vec_len before.text
  pub room : vec_capacity before.text ≤ vec_capacity after.text
  pub ops : after.ops.items ≡ before.ops.items
  pub size : after.size ≡ before.size

-- the command stops its request, and nothing was changed
pub record Stopped (did : Did) (before after : MachineState) (talks talked : Talks) (work done : Work) (stop : Stop) : Type 0 where
  pub stands : after ≡ before
  pub same : IsSame talks talked
  pub nothing : TellsNothing work done
  pub why : IsStop did stop

abbrev pub RunsLine :
    List ℕ → Did → MachineState → MachineState → Talks → Talks → Work → Work → Result Subsystems Stop → Type 0
RunsLine separator did before after talks talked work done (Ok set) = WentOn separator did before after talks talked work done set
RunsLine separator did before after talks talked work done (Err stop) = Stopped did before after talks talked work done stop

-- So much was looked at behind a command. Nothing is said where it found no memory.
abbrev pub CountsLooks : ℕ → ℕ → Result Subsystems Stop → Type 0
CountsLooks all looks (Ok set) = looks ≡ all
CountsLooks all looks (Err (stops.Ends ending)) = looks ≡ all
CountsLooks all looks (Err (stops.Refused refusal)) = looks ≡ all
CountsLooks all looks (Err stops.NoMemory) = Unit {0}

-- The client is told so behind a command. Nothing is said where it found no memory.
abbrev pub HasView : View → View → Result Subsystems Stop → Type 0
HasView all view (Ok set) = view ≡ all
HasView all view (Err (stops.Ends ending)) = view ≡ all
HasView all view (Err (stops.Refused refusal)) = view ≡ all
HasView all view (Err stops.NoMemory) = Unit {0}

-- how the client is told behind a request that ended at a command: those before it where memory was refused
abbrev pub view_at_end : Option ℕ → View → View → View
view_at_end None before behind = behind
view_at_end (Some place) before behind = before

-- how much a request looked at that ended at a command: all that is counted where memory was refused
abbrev pub looks_at_end : Option ℕ → ℕ → ℕ
looks_at_end None looks = looks
looks_at_end (Some place) looks = max_looks

-- How a stop is answered: by nothing where the command ends the request, by the line of its refusal, or by that of want of memory.
abbrev pub AnswersIt : Stop → ℕ → Ending → Work → Work → Type 0
AnswersIt (stops.Ends it) index ending work done = (ending ≡ it) × AddsText [] work done
AnswersIt (stops.Refused refusal) index ending work done = (ending ≡ Answered) × AddsText (ack index refusal) work done
AnswersIt stops.NoMemory index ending work done = ⊥

abbrev pub WantsMemory : Profile → ℕ → List ℕ → Ending → Work → Work → Type 0
WantsMemory profile index line ending work done =
    (ending ≡ Answered) × AddsText (ack index (want_of_memory (name_of_line profile line))) work done

abbrev pub AnswersStop : Profile → Stop → ℕ → List ℕ → Option ℕ → Ending → Work → Work → Type 0
AnswersStop profile stop index line None ending work done = AnswersIt stop index ending work done
AnswersStop profile stop index line (Some place) ending work done = (place ≡ index) × WantsMemory profile index line ending work done

-- what the request does whose end this is, by this client and with these messages before it
abbrev pub ran_for : Asker → Place → List ℕ → View → List (List ℕ) → MachineState → Talks → Work → RequestEnd → Ran
ran_for c place between view lines before talks work end =
    ran c place between end.refused_at 0 (spent_of work.size 0 view talks.messages) lines before

-- the commands were run as the request means them, with memory refused where its end says, at one of them or at none
pub record RunsLines
    (c : Asker) (place : Place) (between : List ℕ) (view : View) (lines : List (List ℕ)) (before after : MachineState)
    (talks talked : Talks) (work done : Work) (end : RequestEnd)
    : Type 0 where
  pub stands : after ≡ (ran_for c place between view lines before talks work end).after
  pub text : SameFront done.text.items (work.text.items ++ (ran_for c place between view lines before talks work end).text)
  pub ops : done.ops.items ≡ work.ops.items ++ (ran_for c place between view lines before talks work end).ops
  pub changed : end.changed ≡ (ran_for c place between view lines before talks work end).changed
  pub ending : end.ending ≡ (ran_for c place between view lines before talks work end).ending
  pub refused_at : end.refused_at ≡ (ran_for c place between view lines before talks work end).refused_at
  pub looks : end.looks ≡ (ran_for c place between view lines before talks work end).looks
  pub sees : end.view ≡ (ran_for c place between view lines before talks work end).view
  pub messages : talked.messages ≡ (ran_for c place between view lines before talks work end).messages
  pub notified : talked.notified.items ≡ talks.notified.items ++ (ran_for c place between view lines before talks work end).notified
  pub within : IfSome end.refused_at (λ place. place < length lines)
