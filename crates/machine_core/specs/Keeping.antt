-- What is kept behind a command or an event that changes what plays: ops that bring the kept place to where the player is; and behind a
-- command that changes playlists: when that was.
use Rattle.std.specs.Prelude.{ℕ, Bool, not, ◌==◌, ◌&&◌, List, [], ◌∷◌, ◌++◌, Option, Some, None, Ok, Err, unwrap_or, if◌then◌else◌}
use Rattle.std.specs.List.{list_any}
use Rattle.idle_masks.specs.Subsystems.{none}
use Rattle.player_core.specs.Commands.{last_or}
use Rattle.player_core.specs.Place.{PlaceState, resumed}
use Rattle.player_core.specs.Player.{PlayerState}
use Rattle.player_core.specs.Reports.{counts}
use Rattle.player_core.specs.declared.selector.Selector.TheVariants.{Id}
use Rattle.profile.specs.declared.profile.Profile.{Profile}
use Rattle.profile.specs.declared.profile.Profile.TheVariants.{Named, Wide}
use Rattle.state_codec.specs.Applied.{after, after_all, changes_nothing}
use Rattle.state_codec.specs.OpsPlace.{stands_in}
use Rattle.state_codec.specs.OpsSettings.{same_flag}
use Rattle.state_codec.specs.SavedState.{SavedState}
use Rattle.state_codec.specs.declared.op.Op.{Op}
use Rattle.state_codec.specs.declared.op.Op.TheVariants.{Place, Timed}
use Rattle.state_codec.specs.declared.op.place_op.PlaceOp.{PlaceOp}
use Rattle.state_codec.specs.declared.op.place_op.PlaceOp.TheVariants.{Put, Played, Begins, Leaves}
use Rattle.machine_core.specs.Before.{is_of_lists, plays_on}
use Rattle.machine_core.specs.Changed.{same_playing}
use Rattle.machine_core.specs.Happening.{Happening, nothing_happens}
use Rattle.machine_core.specs.Meaning.{Meaning, Meant}
use Rattle.machine_core.specs.Reports.{player_happens}
use Rattle.machine_core.specs.State.{MachineState, keeping}
use Rattle.machine_core.specs.Steps.{named_length}
use Rattle.machine_core.specs.declared.changed.Before.{Before}

-- the song that was current leaves the round, where the player's has it no more
abbrev pub leave_ops : Option ℕ → List ℕ → List PlaceOp
leave_ops None played = []
leave_ops (Some id) played = if stands_in id played then [] else Leaves id ∷ []

-- a round of one id begins, where the kept one has another
abbrev pub begin_ops : ℕ → List ℕ → List PlaceOp
begin_ops id kept = if list_any (λ other. not (id == other)) kept then Begins ∷ [] else []

-- A step of the round from the kept one to the player's, where this song was current before: the song started last is the last one.
abbrev pub round_ops : Option ℕ → List ℕ → List ℕ → List PlaceOp
round_ops before kept [] = Begins ∷ []
round_ops before kept (id ∷ []) = begin_ops id kept ++ Played id ∷ []
round_ops before kept (id ∷ next ∷ ids) = leave_ops before (id ∷ next ∷ ids) ++ Played (last_or next ids) ∷ []

-- where the player is
abbrev pub put_op : PlayerState → PlaceOp
put_op player = Put player.state (unwrap_or player.current 0) player.frame

-- of ops of the place those that change something, each at its turn
abbrev pub telling_ops : List PlaceOp → SavedState → List Op
telling_ops [] s = []
telling_ops (op ∷ ops) s =
    if changes_nothing (Place op) s then telling_ops ops s else Place op ∷ telling_ops ops (after (Place op) s)

-- under the named profile nothing is kept, and without room neither
abbrev pub if_kept : Profile → List Op → List Op
if_kept Named ops = []
if_kept Wide ops = ops

abbrev pub place_ops : Option ℕ → PlayerState → SavedState → Option PlaceState → List Op
place_ops before player s None = []
place_ops before player s (Some place) = telling_ops (round_ops before place.played player.played ++ put_op player ∷ []) s

-- what plays, and whether at random, is as before
abbrev pub goes_on : MachineState → MachineState → Bool
goes_on m n = same_playing m.player n.player && same_flag m.saved.options.random n.saved.options.random

-- what is made behind a change of what plays
abbrev pub keep_ops : MachineState → MachineState → List Op
keep_ops m n =
    if_kept (keeping m) (if goes_on m n then [] else place_ops m.player.current n.player n.saved n.saved.place)

abbrev pub with_ops : List Op → MachineState → MachineState
with_ops ops n = record n { saved = after_all ops n.saved }

-- a command with what is kept of the player behind it
abbrev pub keeps : MachineState → Meaning → Meaning
keeps m x = record x { ops = x.ops ++ keep_ops m x.after; after = with_ops (keep_ops m x.after) x.after }

-- what was changed of the playlists and isn't timed yet is timed, where a clock has told the time
abbrev pub telling_time : MachineState → List Op
telling_time n = if changes_nothing (Timed n.clock.now) n.saved then [] else Timed n.clock.now ∷ []

-- behind ops of which one changed a playlist
abbrev pub time_ops : List Op → MachineState → List Op
time_ops ops n = if list_any is_of_lists ops then telling_time n else []

abbrev pub times : MachineState → Meaning → Meaning
times m x =
    let ops = if_kept (keeping m) (time_ops x.ops x.after) in
    record x { ops = x.ops ++ ops; after = with_ops ops x.after }

-- the place first, and then the time
abbrev pub kept : MachineState → Meant → Meant
kept m (Ok x) = Ok (times m (keeps m x))
kept m (Err refusal) = Err refusal

-- an event with what is kept behind it
abbrev pub kept_event : MachineState → Happening → Happening
kept_event m h = record h { ops = h.ops ++ keep_ops m h.after; after = with_ops (keep_ops m h.after) h.after }

-- where the player is now is kept
abbrev pub keeps_place : MachineState → Happening
keeps_place m =
    let ops = if_kept (keeping m) (place_ops m.player.current m.player m.saved m.saved.place) in
    record { ops = ops; after = with_ops ops m; changed = none }

-- the song that was started under this ticket has played for a while
abbrev pub when_kept : ℕ → MachineState → Happening
when_kept ticket m = if counts m.player.state m.player.ticket ticket then keeps_place m else nothing_happens m

-- the player that goes on from a kept place
abbrev pub resumed_from : Bool → MachineState → PlaceState → PlayerState
resumed_from plays m place =
    resumed plays m.saved.options.random (named_length (Id place.song) m).frames m.saved.queue.entries place

abbrev pub resumes : Bool → MachineState → Option PlaceState → Happening
resumes plays m None = nothing_happens m
resumes plays m (Some place) = player_happens (resumed_from plays m place) m

-- the player goes on from where it was kept, where nothing was started in this life
abbrev pub when_resumed : Bool → MachineState → Happening
when_resumed plays m = if m.player.ticket == 0 then resumes plays m m.saved.place else nothing_happens m

-- the same, told by what is kept of the machine before
abbrev pub goes_on_since : Before → MachineState → Bool
goes_on_since before n = plays_on before n && same_flag before.options.random n.saved.options.random

abbrev pub keep_ops_since : Before → MachineState → List Op
keep_ops_since before n = if goes_on_since before n then [] else place_ops before.current n.player n.saved n.saved.place
