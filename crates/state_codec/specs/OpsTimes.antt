-- What ops do to the times of the playlists' last change.
use Rattle.std.specs.Prelude.{ℕ, Bool, true, ◌==◌, ◌||◌, List, Option, Some, None, option_map, if◌then◌else◌}
use Rattle.stored_lists.specs.Times.{Times, are_timed, renamed_time, timed, with_time, without_time}
use Rattle.state_codec.specs.SavedState.{SavedState}
use Rattle.state_codec.specs.declared.op.list_op.ListOp.{ListOp}
use Rattle.state_codec.specs.declared.op.list_op.ListOp.TheVariants.{Save, Add, Remove, Move, Clear, Rename, Drop}

-- the playlist that an op leaves changed, or takes out
abbrev pub named_by : ListOp → List ℕ
named_by (Save name) = name
named_by (Add name rows) = name
named_by (Remove name start end) = name
named_by (Move name from to) = name
named_by (Clear name) = name
named_by (Rename from to) = to
named_by (Drop name) = name

-- A playlist that was changed isn't timed yet. One that is renamed keeps its time, and with one that is taken out its time goes.
abbrev pub times_after : ListOp → Times → Times
times_after (Save name) times = with_time name 0 times
times_after (Add name rows) times = with_time name 0 times
times_after (Remove name start end) times = with_time name 0 times
times_after (Move name from to) times = with_time name 0 times
times_after (Clear name) times = with_time name 0 times
times_after (Rename from to) times = renamed_time from to times
times_after (Drop name) times = without_time name times

-- an op that changes nothing leaves them as they are
abbrev pub list_times : Bool → ListOp → Option Times → Option Times
list_times leaves op times = if leaves then times else option_map (times_after op) times

-- a playlist was changed, and isn't timed yet
abbrev pub untimed : List ℕ → SavedState → SavedState
untimed name s = record s { changed = option_map (with_time name 0) s.changed }

-- all that was changed and isn't timed yet was changed at this time
abbrev pub after_timed : ℕ → SavedState → SavedState
after_timed seconds s = record s { changed = option_map (timed seconds) s.changed }

-- whether that changes nothing
abbrev pub leaves_times : ℕ → Option Times → Bool
leaves_times seconds None = true
leaves_times seconds (Some times) = seconds == 0 || are_timed times
