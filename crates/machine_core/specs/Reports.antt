-- What the output's reports mean: that frames were played, that a song has ended, that one could not be played on.
use Rattle.std.specs.Prelude.{ℕ, [], Option, Some, None}
use Rattle.player_core.specs.Ending.{ended}
use Rattle.player_core.specs.Player.{PlayerState}
use Rattle.player_core.specs.Reports.{fed, failed}
use Rattle.player_core.specs.declared.failure.BrokenCause.{BrokenCause}
use Rattle.song_db.specs.Row.{Row}
use Rattle.machine_core.specs.Changed.{changed}
use Rattle.machine_core.specs.Followed.{current_row}
use Rattle.machine_core.specs.Happening.{Happening}
use Rattle.machine_core.specs.Meaning.{Meaning}
use Rattle.machine_core.specs.State.{MachineState}
use Rattle.machine_core.specs.Steps.{stepping, steps}

-- what happens is what is meant, and the subsystems that it changes
abbrev pub happens : Meaning → MachineState → Happening
happens x m = record { ops = x.ops; after = x.after; changed = changed m x.after }

-- the player alone changes
abbrev pub player_happens : PlayerState → MachineState → Happening
player_happens player m = happens (record { text = []; ops = []; after = record m { player = player } }) m

-- frames of the current song count up to its end
abbrev pub fed_in : Option Row → ℕ → ℕ → PlayerState → PlayerState
fed_in None ticket frames player = player
fed_in (Some row) ticket frames player = fed player ticket frames row.frames

abbrev pub when_fed : ℕ → ℕ → MachineState → Happening
when_fed ticket frames m = player_happens (fed_in (current_row m.saved m.player) ticket frames m.player) m

-- the song that has ended is followed as the player follows it
abbrev pub when_ended : ℕ → MachineState → Happening
when_ended ticket m = happens (steps (stepping m (λ settings. ended m.saved.queue.entries settings m.player ticket)) m) m

-- what could not be played on is followed as the player follows it
abbrev pub when_broken : ℕ → BrokenCause → MachineState → Happening
when_broken ticket cause m =
    happens (steps (stepping m (λ settings. failed m.saved.queue.entries settings m.player ticket cause)) m) m
