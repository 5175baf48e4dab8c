-- What the machine does while the journal's disk is full: nothing that is saved changes. Under the named profile it isn't told of that.
use Rattle.std.specs.Prelude.{◌≡◌, ℕ, Bool, true, false, not, ◌==◌, ◌&&◌, List, [], ◌∷◌, Result, Ok, Err, is_some, if◌then◌else◌}
use Rattle.command_text.specs.declared.refusal.CommandRefusal.{CommandRefusal}
use Rattle.command_text.specs.declared.refusal.CommandRefusal.TheVariants.{DiskFull, RequestTooLarge}
use Rattle.player_core.specs.Player.{PlayerState}
use Rattle.player_core.specs.Reports.{turned}
use Rattle.player_core.specs.declared.playing.PlayState.{PlayState}
use Rattle.player_core.specs.declared.playing.PlayState.TheVariants.{Stop, Pause, Play}
use Rattle.state_codec.specs.declared.op.Op.{Op}
use Rattle.machine_core.specs.Happening.{Happening, nothing_happens}
use Rattle.machine_core.specs.Keeping.{keeps_place}
use Rattle.machine_core.specs.Meaning.{Meaning, Meant}
use Rattle.machine_core.specs.State.{MachineState, lacks_room, told_room}
use Rattle.machine_core.specs.declared.work.Failure.{Failure}
use Rattle.machine_core.specs.declared.work.Failure.TheVariants.{Refused, NoMemory}

-- a command that would make an op is refused
abbrev pub saves_nothing : Meaning → List Op → Meant
saves_nothing x [] = Ok x
saves_nothing x (op ∷ ops) = Err DiskFull

-- where no byte can be recorded each record is too large
abbrev pub full : CommandRefusal → CommandRefusal
full RequestTooLarge = DiskFull
full refusal = refusal

abbrev pub without_room : Meant → Meant
without_room (Ok x) = saves_nothing x x.ops
without_room (Err refusal) = Err (full refusal)

-- how a command ended that had no byte for an op
abbrev pub told_of : Result (Unit {0}) Failure → Result (Unit {0}) Failure
told_of (Ok done) = Ok done
told_of (Err (Refused refusal)) = Err (Refused (full refusal))
told_of (Err NoMemory) = Err NoMemory

-- what a command means, or its refusal where it would change what is saved and there is no room for that
abbrev pub under_room : MachineState → Meant → Meant
under_room m meant = if lacks_room m then without_room meant else meant

abbrev pub is_stopped : PlayState → Bool
is_stopped Stop = true
is_stopped Pause = false
is_stopped Play = false

abbrev pub is_empty : List ℕ → Bool
is_empty [] = true
is_empty (id ∷ ids) = false

-- nothing was started in this life
abbrev pub is_idle : PlayerState → Bool
is_idle player = is_stopped player.state && (not (is_some player.current) && (player.ticket == 0 && is_empty player.played))

-- room is there again, and a random round begins with the song that is current
abbrev pub caught : MachineState → MachineState
caught m = record (told_room true m) { player = turned m.saved.options.random m.player }

-- where the player is then is kept, unless nothing was started in this life
abbrev pub catches_up : MachineState → Happening
catches_up m = if is_idle m.player then nothing_happens (told_room true m) else keeps_place (caught m)

abbrev pub room_back : Bool → MachineState → Happening
room_back true m = catches_up m
room_back false m = nothing_happens (told_room true m)

-- It is told whether there is room. What was not kept meanwhile is kept once there is.
abbrev pub when_room : Bool → MachineState → Happening
when_room false m = nothing_happens (told_room false m)
when_room true m = room_back (lacks_room m) m

-- nothing of what is saved changes by it
pub record SavesNothing (m : MachineState) (h : Happening) : Type 0 where
  pub ops : h.ops ≡ []
  pub same : h.after.saved ≡ m.saved
