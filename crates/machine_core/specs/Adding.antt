-- Where songs are added to the queue, and what adding them means.
use Rattle.std.specs.Prelude.{ℕ, Bool, true, List, length, is_some, Option, Some, None, Result, Ok}
use Rattle.std.specs.Result.{result_map_both}
use Rattle.command_text.specs.declared.refusal.CommandRefusal.{CommandRefusal}
use Rattle.play_queue.specs.Target.{resolved}
use Rattle.play_queue.specs.declared.target.Target.{Target}
use Rattle.play_queue.specs.declared.target.Target.TheVariants.{At, After, Before}
use Rattle.state_codec.specs.Steps.{◌>>=◌}
use Rattle.state_codec.specs.declared.op.Op.TheVariants.{Queue}
use Rattle.state_codec.specs.declared.op.queue_op.QueueOp.TheVariants.{Add}
use Rattle.machine_core.specs.Meaning.{Meant, edits}
use Rattle.machine_core.specs.State.{MachineState, shown_of}
use Rattle.machine_core.specs.Told.{queue_told}

-- the position of a place among so many entries; a relative one is counted from the current song
abbrev pub place_among : Target → Option ℕ → ℕ → Result ℕ CommandRefusal
place_among target current length = result_map_both (λ at. at) queue_told (resolved target current length)

-- the song that a relative place is counted from is there
abbrev pub can_count : Option Target → Option ℕ → Bool
can_count None current = true
can_count (Some (At position)) current = true
can_count (Some (After n)) current = is_some current
can_count (Some (Before n)) current = is_some current

-- the position of a place in the queue: its end, if none is named
abbrev pub place_in : Option Target → MachineState → Result ℕ CommandRefusal
place_in None m = Ok (length m.saved.queue.entries)
place_in (Some target) m = place_among target (shown_of m).current (length m.saved.queue.entries)

-- the songs of these rows are added there, and these lines are answered
abbrev pub adds : Option Target → List ℕ → List ℕ → MachineState → Meant
adds to rows text m = do
  at ← place_in to m
  edits (Queue (Add at rows)) text m
