-- The steps of the player: those that commands, the end of a song and its failure make, and what each means beside the player after it.
use Rattle.std.specs.Prelude.{ℕ, ◌+◌, ◌<◌, Bool, List, [], ◌∷◌, ◌++◌, length, slice_get, option_and_then}
use Rattle.std.specs.Prelude.{Option, Some, None, Result, Ok, Err, if◌then◌else◌}
use Rattle.std.specs.Option.{ForSome}
use Rattle.play_queue.specs.declared.entry.Entry.{Entry}
use Rattle.player_core.specs.Commands.{named, played_from, resumed, next_one}
use Rattle.player_core.specs.Ending.{ended}
use Rattle.player_core.specs.Order.{current_entry}
use Rattle.player_core.specs.Player.{PlayerState, Step, no_changes}
use Rattle.player_core.specs.Reports.{failed}
use Rattle.player_core.specs.Seek.{sought}
use Rattle.player_core.specs.declared.changes.Changes.{Changes}
use Rattle.player_core.specs.declared.options.Single.TheVariants.{Off}
use Rattle.player_core.specs.declared.refusal.PlayerError.{PlayerError}
use Rattle.player_core.specs.declared.seek.SongLength.{SongLength}
use Rattle.player_core.specs.declared.selector.Selector.{Selector}
use Rattle.player_core.specs.declared.selector.Selector.TheVariants.{Position, Id}
use Rattle.player_core.specs.declared.settings.PlaySettings.{PlaySettings}
use Rattle.song_db.specs.Row.{Row}
use Rattle.state_codec.specs.declared.op.Op.{Op}
use Rattle.state_codec.specs.declared.op.Op.TheVariants.{SetOption, Queue}
use Rattle.state_codec.specs.declared.op.queue_op.QueueOp.TheVariants.{Delete}
use Rattle.state_codec.specs.declared.op.setting.Setting.TheVariants.{Single, Consume}
use Rattle.machine_core.specs.Followed.{current_row, entry_row}
use Rattle.machine_core.specs.Meaning.{Meaning, Meant, does, order_ops, turns}
use Rattle.machine_core.specs.State.{MachineState, lacks_room, settings_of}
use Rattle.machine_core.specs.Told.{player_told}
use Rattle.machine_core.specs.declared.steps.PlayerStep.{PlayerStep}
use Rattle.machine_core.specs.declared.steps.PlayerStep.TheVariants.{Resume, Play, Seek, Next, Ended, Failed}

-- what of an entry that was looked for follows, or the refusal
abbrev pub from_named : Result ℕ PlayerError → (ℕ → Step) → Result Step PlayerError
from_named (Ok id) step = Ok (step id)
from_named (Err refusal) step = Err refusal

-- what the player does
abbrev pub step_of : PlayerStep → List Entry → PlaySettings → PlayerState → Result Step PlayerError
step_of Resume entries settings player = Ok (resumed player.state entries settings player)
step_of (Play selector) entries settings player = from_named (named selector entries) (λ id. played_from settings player id)
step_of (Seek selector song milliseconds) entries settings player =
    from_named (named selector entries) (λ id. sought settings song milliseconds player id)
step_of Next entries settings player = next_one entries settings player
step_of (Ended ticket) entries settings player = Ok (ended entries settings player ticket)
step_of (Failed ticket cause) entries settings player = Ok (failed entries settings player ticket cause)

abbrev pub step_in : PlayerStep → MachineState → Result Step PlayerError
step_in step m = step_of step m.saved.queue.entries (settings_of m.saved) m.player

-- the entry that leaves the queue
abbrev pub removal_ops : Option ℕ → List Op
removal_ops None = []
removal_ops (Some at) = Queue (Delete at (at + 1)) ∷ []

-- `single` turns off
abbrev pub single_ops : Bool → List Op
single_ops off = if off then SetOption (Single Off) ∷ [] else []

-- `consume` turns off
abbrev pub consume_ops : Bool → List Op
consume_ops off = if off then SetOption (Consume Off) ∷ [] else []

-- What a step changes of the saved half: the new random order, the entry that leaves, `single`, `consume`, in this order.
abbrev pub step_ops : Changes → List Op
step_ops changes =
    order_ops changes.order ++ (removal_ops changes.removed ++ (single_ops changes.single_off ++ consume_ops changes.consume_off))

-- the entry that leaves stands in the queue
abbrev pub IsInQueue : Option ℕ → List Entry → Type 0
IsInQueue removed entries = ForSome removed (λ at. at < length entries)

-- a step of the player, with what it changes
abbrev pub steps : Step → MachineState → Meaning
steps step m = does [] (step_ops step.changes) step.player m

-- a step of the player that changes nothing of what is saved
abbrev pub unsaved : Step → Step
unsaved step = record step { changes = no_changes }

-- what the player goes by where no entry can leave the queue
abbrev pub without_consume : PlaySettings → PlaySettings
without_consume settings = record settings { options = record settings.options { consume = Off } }

-- the step that an event brings: where there is no room, the player goes on as if no entry left the queue, and what else the step would
-- change stays as it is
abbrev pub stepping : MachineState → (PlaySettings → Step) → Step
stepping m step =
    if lacks_room m then unsaved (step (without_consume (settings_of m.saved))) else step (settings_of m.saved)

-- what the player does then
abbrev pub step_full : PlayerStep → MachineState → Result Step PlayerError
step_full step m = step_of step m.saved.queue.entries (without_consume (settings_of m.saved)) m.player

-- a command that makes a step, refused as the player refuses it
abbrev pub moves : Result Step PlayerError → MachineState → Meant
moves (Ok step) m = Ok (steps step m)
moves (Err refusal) m = Err (player_told refusal)

-- a command that changes the player alone, refused as the player refuses it
abbrev pub puts : Result PlayerState PlayerError → MachineState → Meant
puts (Ok player) m = turns player m
puts (Err refusal) m = Err (player_told refusal)

-- how long a song is; each entry of a saved state has a row
abbrev pub length_of : Option Row → SongLength
length_of None = record { rate = 0; frames = 0 }
length_of (Some row) = record { rate = row.rate; frames = row.frames }

-- the entry that a command names
abbrev pub named_entry : Selector → List Entry → Option Entry
named_entry (Position position) entries = slice_get entries position
named_entry (Id id) entries = current_entry entries (Some id)

abbrev pub named_length : Selector → MachineState → SongLength
named_length selector m = length_of (option_and_then (entry_row m.saved.songs) (named_entry selector m.saved.queue.entries))

abbrev pub current_length : MachineState → SongLength
current_length m = length_of (current_row m.saved m.player)
