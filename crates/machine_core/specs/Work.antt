-- What the code of one command does to the work on its request.
use Rattle.std.specs.Prelude.{◌≡◌, ℕ, ◌+◌, ◌≤◌, ◌<◌, List, ◌++◌, length, take, vec_len, vec_capacity}
use Rattle.std.specs.Prelude.{Result, Ok, Err, OnOk, OnErr, IsOk, IsOkUnless}
use Rattle.profile.specs.declared.profile.Profile.{Profile}
use Rattle.profile.specs.declared.profile.Profile.TheVariants.{Named, Wide}
use Rattle.state_codec.specs.Spelling.{ops_bytes}
use Rattle.state_codec.specs.declared.op.Op.{Op}
use Rattle.command_text.specs.declared.refusal.CommandRefusal.TheVariants.{RequestTooLarge}
use Rattle.no_memory.specs.declared.NoMemory.{NoMemory as WantOfMemory}
use Rattle.machine_core.specs.Meaning.{Meaning, Meant}
use Rattle.machine_core.specs.Front.{SameFront, front_of}
use Rattle.machine_core.specs.Keeping.{kept}
use Rattle.machine_core.specs.Size.{max_request_bytes, room_by, within, within_room}
use Rattle.machine_core.specs.State.{MachineState}
use Rattle.machine_core.specs.declared.work.Failure.{Failure}
use Rattle.machine_core.specs.declared.work.Failure.TheVariants.{Refused, NoMemory}
use Rattle.machine_core.specs.declared.work.Work.{Work}

-- the longest `ACK` line of want of memory, and the same with `list_OK` before it, each with its newline
abbrev pub ack_room : ℕ
ack_room = 64

abbrev pub command_room : ℕ
command_room = 72

-- so many bytes can be added to the answer without memory
abbrev pub HasRoom : ℕ → Work → Type 0
HasRoom bytes work = vec_len work.text + bytes ≤ vec_capacity work.text

-- how many ops keep the player's place and the playlists' time behind one command, at most
abbrev pub keep_count : ℕ
keep_count = 4

-- a time can be added without memory, within the limit
pub record CanTime (work : Work) : Type 0 where
  pub room : vec_len work.ops + 1 ≤ vec_capacity work.ops
  pub fits : work.size + 9 ≤ max_request_bytes

-- what keeps the place can be added without memory
abbrev pub CanKeep : Work → Type 0
CanKeep work = vec_len work.ops + keep_count ≤ vec_capacity work.ops

-- it can where the profile keeps one
abbrev pub CanKeepBy : Profile → Work → Type 0
CanKeepBy Named work = Unit {0}
CanKeepBy Wide work = CanKeep work

-- so many ops of so many bytes together can be added without memory, and what keeps the place behind them, all within the limit
pub record Admits (count bytes : ℕ) (work : Work) : Type 0 where
  pub room : vec_len work.ops + (count + keep_count) ≤ vec_capacity work.ops
  pub fits : work.size + bytes ≤ max_request_bytes

-- the ops, which take so many bytes, were added at the end
pub record AddsOps (more : List Op) (bytes : ℕ) (before after : Work) : Type 0 where
  pub ops : after.ops.items ≡ before.ops.items ++ more
  pub size : after.size ≡ before.size + bytes
  pub fits : after.size ≤ max_request_bytes

-- nothing was added; memory that was taken may stay
pub record AddsNothing (before after : Work) : Type 0 where
  pub text : after.text.items ≡ before.text.items
  pub room : vec_capacity before.text ≤ vec_capacity after.text
  pub ops : after.ops.items ≡ before.ops.items
  pub size : after.size ≡ before.size

-- an answer that is longer than any that is sent was cut to what is given out of it; memory that was taken may stay
pub record IsCut (before after : Work) : Type 0 where
  pub text : after.text.items ≡ front_of before.text.items
  pub room : vec_capacity before.text ≤ vec_capacity after.text
  pub ops : after.ops.items ≡ before.ops.items
  pub size : after.size ≡ before.size

-- for what ends a command there is no room behind what is given out of the answer
abbrev pub LacksText : Work → Type 0
LacksText work = vec_capacity work.text < length (front_of work.text.items) + command_room

-- these bytes were added to the answer, and nothing else was done
pub record AddsText (more : List ℕ) (before after : Work) : Type 0 where
  pub text : after.text.items ≡ before.text.items ++ more
  pub ops : after.ops.items ≡ before.ops.items
  pub size : after.size ≡ before.size

-- the same, but that of these bytes those may be missing that aren't given out
pub record TellsText (more : List ℕ) (before after : Work) : Type 0 where
  pub text : SameFront after.text.items (before.text.items ++ more)
  pub ops : after.ops.items ≡ before.ops.items
  pub size : after.size ≡ before.size

-- The command did what it means: its ops were added, and its lines, of which those may be missing that aren't given out; and there is room
-- for what ends a command, and for what is kept behind it.
pub record Went (profile : Profile) (meant : Meant) (after : MachineState) (work done : Work) : Type 0 where
  pub meaning : Meaning
  pub means : meant ≡ Ok meaning
  pub stands : after ≡ meaning.after
  pub text : SameFront done.text.items (work.text.items ++ meaning.text)
  pub ops : AddsOps meaning.ops (length (ops_bytes profile meaning.ops)) work done
  pub room : HasRoom command_room done
  pub keeps : CanKeep work → CanKeep done

-- it was refused as it must be, by what it means or by the limit on a request; or it found no memory
abbrev pub IsRefusalOf : Profile → Meant → ℕ → Failure → Type 0
IsRefusalOf profile meant size (Refused refusal) = within profile size meant ≡ Err refusal
IsRefusalOf profile meant size NoMemory = Unit {0}

-- it failed, and nothing was changed
pub record Failed (meant : Meant) (before after : MachineState) (work done : Work) (failure : Failure) : Type 0 where
  pub state : after ≡ before
  pub nothing : AddsNothing work done
  pub refusal : IsRefusalOf before.saved.profile meant work.size failure

-- the same of a command with room to keep the player's place
abbrev pub IsKeptRefusalOf : Profile → Meant → ℕ → Failure → Type 0
IsKeptRefusalOf profile meant size (Refused refusal) = within_room profile size meant ≡ Err refusal
IsKeptRefusalOf profile meant size NoMemory = Unit {0}

pub record FailedKept (meant : Meant) (before after : MachineState) (work done : Work) (failure : Failure) : Type 0 where
  pub state : after ≡ before
  pub nothing : AddsNothing work done
  pub refusal : IsKeptRefusalOf before.saved.profile meant work.size failure

-- A method performs what this means: it takes the machine and the work from before it to after it.
abbrev pub Performs : {T : Type 0} → Meant → MachineState → MachineState → Work → Work → Result T Failure → Type 0
Performs meant before after work done (Ok x) = Went before.saved.profile meant after work done
Performs meant before after work done (Err failure) = Failed meant before after work done failure

-- A command performs what this means, and leaves room free to keep the player's place.
abbrev pub PerformsAside : {T : Type 0} → Meant → MachineState → MachineState → Work → Work → Result T Failure → Type 0
PerformsAside meant before after work done (Ok x) =
    Went before.saved.profile meant after work done × (done.size + room_by before.saved.profile ≤ max_request_bytes)
PerformsAside meant before after work done (Err failure) = FailedKept meant before after work done failure

-- The command did what it means, and what plays then is kept: all ops were added, and its lines, of which those may be missing that aren't
-- given out; and there is room for what ends a command.
pub record WentKept (profile : Profile) (meant : Meant) (after : MachineState) (work done : Work) : Type 0 where
  pub meaning : Meaning
  pub means : meant ≡ Ok meaning
  pub stands : after ≡ meaning.after
  pub text : SameFront done.text.items (work.text.items ++ meaning.text)
  pub ops : AddsOps meaning.ops (length (ops_bytes profile meaning.ops)) work done
  pub room : HasRoom command_room done

-- A command performs what this means, with room to keep the player's place, and what it changed of that is kept.
abbrev pub PerformsKept : {T : Type 0} → Meant → MachineState → MachineState → Work → Work → Result T Failure → Type 0
PerformsKept meant before after work done (Ok x) =
    WentKept before.saved.profile (kept before (within_room before.saved.profile work.size meant)) after work done
PerformsKept meant before after work done (Err failure) = FailedKept meant before after work done failure

-- so many bytes are past the limit on a request, or memory was refused
abbrev pub IsTooMuch : ℕ → Failure → Type 0
IsTooMuch bytes (Refused refusal) = (refusal ≡ RequestTooLarge) × (max_request_bytes < bytes)
IsTooMuch bytes NoMemory = Unit {0}

-- Behind a mark of the answer something was written: it stays, with room for what ends a command; or it was cut off, since no
-- memory was found for it or for that room.
pub record Keeps
    (mark : ℕ) (written : Result (Unit {0}) WantOfMemory) (before after : Work) (result : Result (Unit {0}) Failure)
    : Type 0 where
  pub kept : OnOk result (IsOk written × ((after.text.items ≡ before.text.items) × HasRoom command_room after))
  pub cut : OnErr result (after.text.items ≡ take mark before.text.items)
  pub memory : IsOkUnless result NoMemory
  pub room : vec_capacity before.text ≤ vec_capacity after.text
  pub ops : after.ops.items ≡ before.ops.items
  pub keeps : CanKeep before → CanKeep after
  pub size : after.size ≡ before.size
