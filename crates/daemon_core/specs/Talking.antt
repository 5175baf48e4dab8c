-- What the code of a command of messages does.
use Rattle.std.specs.Prelude.{◌≡◌, ℕ, List, ◌++◌, Option, Some, None, Result, Ok, Err, IsOkUnless}
use Rattle.client_messages.specs.Listeners.{notified, sent}
use Rattle.client_messages.specs.Messages.{message}
use Rattle.client_messages.specs.declared.refusal.MessagesError.{MessagesError}
use Rattle.client_messages.specs.declared.refusal.MessagesError.TheVariants as errors
use Rattle.command_text.specs.declared.refusal.CommandRefusal.{CommandRefusal}
use Rattle.idle_masks.specs.declared.subsystem.Subsystems.{Subsystems}
use Rattle.machine_core.specs.Work.{AddsNothing, HasRoom, TellsText, command_room}
use Rattle.machine_core.specs.declared.work.Failure.{Failure}
use Rattle.machine_core.specs.declared.work.Failure.TheVariants.{Refused, NoMemory}
use Rattle.machine_core.specs.declared.work.Work.{Work}
use Rattle.daemon_core.specs.Talk.{Talk, refusal_of}
use Rattle.daemon_core.specs.declared.talk.Talks.{Talks}

-- how a call's refusal is a command's
abbrev pub failure_of : MessagesError → Failure
failure_of errors.NoMemory = NoMemory
failure_of error = Refused (refusal_of error)

-- nothing was sent, and nobody is to be told; memory that was taken may stay
pub record IsSame (before after : Talks) : Type 0 where
  pub messages : after.messages ≡ before.messages
  pub notified : after.notified.items ≡ before.notified.items

-- the message was sent, and those are kept who are to be told of it
pub record Sends (channel text : List ℕ) (before after : Talks) : Type 0 where
  pub messages : after.messages ≡ sent before.messages (message channel text)
  pub notified : after.notified.items ≡ before.notified.items ++ notified before.messages (message channel text)

-- it is refused by this, or else by want of memory alone
abbrev pub FailsAs : Option MessagesError → Result (Unit {0}) Failure → Type 0
FailsAs None result = IsOkUnless result NoMemory
FailsAs (Some error) (Ok x) = ⊥
FailsAs (Some error) (Err (Refused refusal)) = failure_of error ≡ Refused refusal
FailsAs (Some error) (Err NoMemory) = Unit {0}

-- these lines were added, but those that aren't given out, with room for what ends a command, or none
abbrev pub TellsTalk : List ℕ → Work → Work → Result (Unit {0}) Failure → Type 0
TellsTalk lines work done (Ok x) = TellsText lines work done × HasRoom command_room done
TellsTalk lines work done (Err failure) = AddsNothing work done × (failure ≡ NoMemory)

-- the command did what it does
pub record WentTalking (talked : Result Talk CommandRefusal) (before after : Talks) (work done : Work) (set : Subsystems) : Type 0 where
  pub talk : Talk
  pub does : talked ≡ Ok talk
  pub messages : after.messages ≡ talk.messages
  pub notified : after.notified.items ≡ before.notified.items ++ talk.notified
  pub text : TellsText talk.text work done
  pub changed : set ≡ talk.changed
  pub room : HasRoom command_room done

-- it was refused as it must be, or found no memory
abbrev pub IsTalkRefusal : Result Talk CommandRefusal → Failure → Type 0
IsTalkRefusal talked (Refused refusal) = talked ≡ Err refusal
IsTalkRefusal talked NoMemory = Unit {0}

-- it failed, and nothing was changed
pub record FailedTalking (talked : Result Talk CommandRefusal) (before after : Talks) (work done : Work) (failure : Failure) : Type 0 where
  pub same : IsSame before after
  pub nothing : AddsNothing work done
  pub refusal : IsTalkRefusal talked failure

abbrev pub RunsTalk : Result Talk CommandRefusal → Talks → Talks → Work → Work → Result Subsystems Failure → Type 0
RunsTalk talked before after work done (Ok set) = WentTalking talked before after work done set
RunsTalk talked before after work done (Err failure) = FailedTalking talked before after work done failure
