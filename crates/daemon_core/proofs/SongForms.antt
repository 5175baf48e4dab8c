-- Each op and each step of the player keeps it that in play and in pause a song is current.
use Rattle.std.proofs.Common.{◌≡◌, ℕ, Bool, true, false, ◌||◌, ◌==◌, List, [], Option, Some, None, cond, Result, Ok, Err}
use Rattle.std.proofs.Common.{refl, sym, ◌∙◌, ap}
use Rattle.std.specs.Prelude.{is_some, unwrap_or}
use Rattle.std.proofs.lemmas.Bool.{or_right}
use Rattle.machine_core.specs.Followed.{followed as follows, follows_queue, follows_setting, cut_to}
use Rattle.machine_core.specs.Followed.{no_block}
use Rattle.machine_core.specs.Meaning.{Meant}
use Rattle.machine_core.specs.State.{MachineState, settings_of}
use Rattle.machine_core.specs.Steps.{moves, puts, from_named, step_of, step_in}
use Rattle.machine_core.specs.declared.steps.PlayerStep.{PlayerStep}
use Rattle.machine_core.specs.declared.steps.PlayerStep.TheVariants.{Resume, Play as PlayNamed, Seek, Next, Ended, Failed}
use Rattle.play_queue.specs.Entries.{Uris}
use Rattle.play_queue.specs.declared.entry.Entry.{Entry}
use Rattle.player_core.specs.Choice.{chosen, placed}
use Rattle.player_core.specs.Commands.{named, begun, stepped, stepped_if_any, to_resume, resumed, paused_if, paused, halted}
use Rattle.player_core.specs.Commands.{again_from, in_front, gone_back, previous_one, played_from}
use Rattle.player_core.specs.Ending.{over_at, over, ended_in, followed_by, gone_on_or_stopped, held, held_if, repeats_one, waits}
use Rattle.player_core.specs.Order.{current_entry}
use Rattle.player_core.specs.Player.{PlayerState, Step, unchanged, started, stopped_without_song, without}
use Rattle.player_core.specs.Player.{gone_to, gone_on, in_round, left_out}
use Rattle.player_core.specs.Reports.{broken, counts, failed_of, failure, followed, followed_at}
use Rattle.player_core.specs.Reports.{gone, gone_in_pause, gone_on_without, passed}
use Rattle.player_core.specs.Reports.{passes, takes_at}
use Rattle.player_core.specs.Seek.{still, put_to, sought, frame_at, sought_current, sought_here}
use Rattle.player_core.specs.declared.block.Block.{Block}
use Rattle.player_core.specs.declared.choice.Choice.{Choice}
use Rattle.player_core.specs.declared.failure.BrokenCause.{BrokenCause}
use Rattle.player_core.specs.declared.manners.Manners.{Manners}
use Rattle.player_core.specs.declared.manners.Manners.TheVariants.{Named, Mpd}
use Rattle.player_core.specs.declared.options.Single.{Single}
use Rattle.player_core.specs.declared.options.Single.TheVariants.{Off}
use Rattle.player_core.specs.declared.playing.PlayState.{PlayState}
use Rattle.player_core.specs.declared.playing.PlayState.TheVariants.{Stop, Play, Pause}
use Rattle.player_core.specs.declared.refusal.PlayerError.{PlayerError}
use Rattle.player_core.specs.declared.seek.SeekTime.{SeekTime}
use Rattle.player_core.specs.declared.seek.SongLength.{SongLength}
use Rattle.player_core.specs.declared.settings.PlaySettings.{PlaySettings}
use Rattle.song_db.specs.Row.{Row}
use Rattle.state_codec.specs.declared.op.Op.{Op}
use Rattle.state_codec.specs.declared.op.Op.TheVariants.{SetOption, SetVolume, SetOrder, Queue, List as Lists, Sticker, Batch, Place, Timed}
use Rattle.state_codec.specs.declared.op.queue_op.QueueOp.{QueueOp}
use Rattle.state_codec.specs.declared.op.queue_op.QueueOp.TheVariants as queue
use Rattle.state_codec.specs.declared.op.setting.Setting.{Setting}
use Rattle.state_codec.specs.declared.op.setting.Setting.TheVariants as setting
use Rattle.machine_core.proofs.CommandForms.{Holds}
use Rattle.daemon_core.specs.Running.{has_song}
use Rattle.daemon_core.specs.Stray.{is_stop}

-- a player that has a song goes on to one that has
abbrev pub Keeps : PlayerState → PlayerState → Type 0
Keeps before after = has_song before ≡ true → has_song after ≡ true

abbrev pub KeepsSong : MachineState → Meant → Type 0
KeepsSong m meant = Holds (λ n x. Keeps n.player x.after.player) m meant

pub one_of_two : (before a b : PlayerState) (which : Bool) → Keeps before a → Keeps before b → Keeps before (cond which a b)
one_of_two before a b true first second = first
one_of_two before a b false first second = second

one_of_steps : (before : PlayerState) (a b : Step) (which : Bool) → Keeps before a.player → Keeps before b.player →
    let step = cond which a b in Keeps before step.player
one_of_steps before a b true first second = first
one_of_steps before a b false first second = second

-- what the player does
gone_to_song : (random : Bool) (player : PlayerState) (id : Option ℕ) → has_song (gone_to random player id) ≡ true
gone_to_song random player None = refl
gone_to_song random player (Some id) = refl

gone_on_song : (random : Bool) (player : PlayerState) (choice : Choice) → has_song (gone_on random player choice) ≡ true
gone_on_song random player choice = gone_to_song random (in_round choice.order player) choice.id

without_song : (entries : List Entry) (settings : PlaySettings) (block : Block) (dropped : Uris) (player : PlayerState)
    (place : ℕ × ℕ) → let step = gone_on_without entries settings block dropped player place in has_song step.player ≡ true
without_song entries settings block dropped player place = of (repeats_one settings.manners settings.options)
  where
    of : (b : Bool) → let step : Step = cond b (unchanged (stopped_without_song (left_out block dropped entries player)))
        (stepped settings.options.random (left_out block dropped entries player)
        (chosen settings entries block dropped player.played place.0 place.1)) in has_song step.player ≡ true
    of true = refl
    of false = gone_on_song settings.options.random (left_out block dropped entries player) _

pause_song : (by : Manners) (entries : List Entry) (settings : PlaySettings) (block : Block) (dropped : Uris) (player : PlayerState)
    (place : ℕ × ℕ) → let step = gone_in_pause by entries settings block dropped player place in has_song step.player ≡ true
pause_song Named entries settings block dropped player place = refl
pause_song Mpd entries settings block dropped player place = refl

gone_song : (state : PlayState) (entries : List Entry) (settings : PlaySettings) (block : Block) (dropped : Uris) (player : PlayerState)
    (place : ℕ × ℕ) → let step = gone state entries settings block dropped player place in has_song step.player ≡ true
gone_song Play entries settings block dropped player place = without_song entries settings block dropped player place
gone_song Pause entries settings block dropped player place =
    pause_song settings.manners entries settings block dropped player place
gone_song Stop entries settings block dropped player place = refl

followed_at_song : (entries : List Entry) (settings : PlaySettings) (block : Block) (dropped : Uris) (player : PlayerState)
    (place : Option (ℕ × ℕ)) → let step = followed_at entries settings block dropped player place in Keeps player step.player
followed_at_song entries settings block dropped player None = λ h. h
followed_at_song entries settings block dropped player (Some place) =
    one_of_steps player (gone player.state entries settings block dropped player place) (unchanged (left_out block dropped entries player))
    (takes_at block dropped entries place.0) (λ h. gone_song player.state entries settings block dropped player place) (λ h. h)

followed_song : (entries : List Entry) (settings : PlaySettings) (block : Block) (dropped : Uris) (player : PlayerState) →
    let step = followed entries settings block dropped player in Keeps player step.player
followed_song entries settings block dropped player =
    followed_at_song entries settings block dropped player (placed entries player.current)

cut_song : (row : Option Row) (before player : PlayerState) → Keeps before player → Keeps before (cut_to row player)
cut_song None before player h = h
cut_song (Some row) before player h = h

setting_song : (op : Setting) (m : MachineState) → let next = follows_setting op m in Keeps m.player next.player
setting_song (setting.Repeat on) m = λ h. h
setting_song (setting.Random on) m = λ h. h
setting_song (setting.Single single) m = λ h. h
setting_song (setting.Consume consume) m = λ h. h

queue_song : (op : QueueOp) (m : MachineState) → let next = follows_queue op m in Keeps m.player next.player
queue_song (queue.Add at rows) m = λ h. h
queue_song (queue.Delete start end) m = followed_song m.saved.queue.entries (settings_of m.saved) _ [] m.player
queue_song (queue.Move start end to) m = λ h. h
queue_song (queue.Swap one other) m = λ h. h
queue_song (queue.Shuffle start end) m = λ h. h
queue_song (queue.Prio priority ranges) m = λ h. h

pub op_song : (op : Op) (m : MachineState) → let next = follows op m in Keeps m.player next.player
op_song (SetOption op) m = setting_song op m
op_song (SetVolume volume) m = λ h. h
op_song (SetOrder order) m = λ h. h
op_song (Queue op) m = queue_song op m
op_song (Lists op) m = λ h. h
op_song (Sticker op) m = λ h. h
op_song (Batch changes) m = cut_song _ m.player _ (followed_song m.saved.queue.entries (settings_of m.saved) no_block _ m.player)
op_song (Place op) m = λ h. h
op_song (Timed seconds) m = λ h. h

next_song : (random : Bool) (player : PlayerState) (next : Option Choice) → has_song (gone_on_or_stopped random player next) ≡ true
next_song random player None = refl
next_song random player (Some choice) = gone_on_song random player choice

stop_held : (state : PlayState) → is_stop (held state) ≡ is_stop state
stop_held Stop = refl
stop_held Play = refl
stop_held Pause = refl

held_song : (b : Bool) (player : PlayerState) → has_song player ≡ true → has_song (held_if b player) ≡ true
held_song false player h = h
held_song true player h = ap (λ b. b || is_some player.current) (stop_held player.state) ∙ h

over_at_song : (entries : List Entry) (settings : PlaySettings) (single : Single) (player : PlayerState) (place : Option (ℕ × ℕ)) →
    let step = over_at entries settings single player place in Keeps player step.player
over_at_song entries settings single player None = λ h. h
over_at_song entries settings single player (Some place) = λ h.
    held_song (waits single settings.manners settings.options.repeat) _
    (next_song settings.options.random _ (followed_by settings single entries player.played place.0 place.1))

over_song : (entries : List Entry) (settings : PlaySettings) (single : Single) (player : PlayerState) →
    let step = over entries settings single player in Keeps player step.player
over_song entries settings single player = over_at_song entries settings single player (placed entries player.current)

pub ended_song : (state : PlayState) (entries : List Entry) (settings : PlaySettings) (player : PlayerState) (ticket : ℕ) →
    let step = ended_in state entries settings player ticket in Keeps player step.player
ended_song Stop entries settings player ticket = λ h. h
ended_song Pause entries settings player ticket = λ h. h
ended_song Play entries settings player ticket =
    one_of_steps player (over entries settings settings.options.single player) (unchanged player) (player.ticket == ticket)
    (over_song entries settings settings.options.single player) (λ h. h)

broken_song : (player : PlayerState) (ticket : ℕ) (cause : BrokenCause) (uri : List ℕ) → Keeps player (broken player ticket cause uri)
broken_song player ticket cause uri =
    one_of_two player (record player { state = Stop; error = Some (failure cause uri) }) player
    (counts player.state player.ticket ticket) (λ h. refl) (λ h. h)

pub failed_song : (entries : List Entry) (settings : PlaySettings) (player : PlayerState) (ticket : ℕ) (cause : BrokenCause)
    (entry : Option Entry) → let step = failed_of entries settings player ticket cause entry in Keeps player step.player
failed_song entries settings player ticket cause None = λ h. h
failed_song entries settings player ticket cause (Some entry) =
    one_of_steps player (passed entries settings player entry.uri) (unchanged (broken player ticket cause entry.uri))
    (passes entries settings player ticket cause) (over_song entries settings Off player) (broken_song player ticket cause entry.uri)

if_any_song : (random : Bool) (player : PlayerState) (choice : Choice) (id : Option ℕ) →
    let step = stepped_if_any random player choice id in Keeps player step.player
if_any_song random player choice None = λ h. h
if_any_song random player choice (Some id) = λ h. gone_on_song random player choice

-- in play and pause the song that is current
song_in : (player : PlayerState) (state : PlayState) → player.state ≡ state → is_stop state ≡ false → has_song player ≡ true →
    is_some player.current ≡ true
song_in player state is runs h =
    ap (λ b. b || is_some player.current) (sym runs) ∙ ap (λ s. is_stop s || is_some player.current) (sym is) ∙ h

resumed_song : (state : PlayState) (entries : List Entry) (settings : PlaySettings) (player : PlayerState) → player.state ≡ state →
    let step = resumed state entries settings player in Keeps player step.player
resumed_song Play entries settings player is = λ h. h
resumed_song Pause entries settings player is = λ h. song_in player Pause is refl h
resumed_song Stop entries settings player is =
    let choice : Choice = to_resume settings entries player.current in
    if_any_song settings.options.random player choice choice.id

sought_song : (state : PlayState) (settings : PlaySettings) (song : SongLength) (frame : ℕ) (player : PlayerState) (id : ℕ)
    (current : Option ℕ) →
    let step = stepped settings.options.random player (begun settings current id) in
    has_song (put_to state song frame step.player) ≡ true
sought_song state settings song frame player id None = or_right (is_stop (still state)) true refl
sought_song state settings song frame player id (Some current) = or_right (is_stop (still state)) true refl

-- a step that may be refused
abbrev StepKeeps : PlayerState → Result Step PlayerError → Type 0
StepKeeps player (Ok step) = Keeps player step.player
StepKeeps player (Err refusal) = Unit {0}

named_song : (player : PlayerState) (found : Result ℕ PlayerError) (step : ℕ → Step) →
    ((id : ℕ) → let made = step id in Keeps player made.player) → StepKeeps player (from_named found step)
named_song player (Ok id) step keeps = keeps id
named_song player (Err refusal) step keeps = tt

next_one_song : (state : PlayState) (player : PlayerState) (step : Step) → Keeps player step.player →
    StepKeeps player (Rattle.player_core.specs.Commands.unless_stopped state step)
next_one_song Stop player step keeps = tt
next_one_song Play player step keeps = keeps
next_one_song Pause player step keeps = keeps

step_song : (step : PlayerStep) (entries : List Entry) (settings : PlaySettings) (player : PlayerState) →
    StepKeeps player (step_of step entries settings player)
step_song Resume entries settings player = resumed_song player.state entries settings player refl
step_song (PlayNamed selector) entries settings player =
    named_song player (named selector entries) (λ id. played_from settings player id)
    (λ id h. gone_on_song settings.options.random player (begun settings player.current id))
step_song (Seek selector song milliseconds) entries settings player =
    named_song player (named selector entries) (λ id. sought settings song milliseconds player id)
    (λ id h. sought_song player.state settings song (frame_at song milliseconds) player id player.current)
step_song Next entries settings player = next_one_song player.state player (over entries settings Off player)
    (over_song entries settings Off player)
step_song (Ended ticket) entries settings player = ended_song player.state entries settings player ticket
step_song (Failed ticket cause) entries settings player =
    failed_song entries settings player ticket cause (current_entry entries player.current)

moved_song : (made : Result Step PlayerError) (m : MachineState) → StepKeeps m.player made → KeepsSong m (moves made m)
moved_song (Ok step) m keeps = keeps
moved_song (Err refusal) m keeps = tt

pub moves_song : (step : PlayerStep) (m : MachineState) → KeepsSong m (moves (step_in step m) m)
moves_song step m = moved_song (step_in step m) m (step_song step m.saved.queue.entries (settings_of m.saved) m.player)

-- a player that may be refused
abbrev PlayerKeeps : PlayerState → Result PlayerState PlayerError → Type 0
PlayerKeeps player (Ok after) = Keeps player after
PlayerKeeps player (Err refusal) = Unit {0}

unless_stopped_song : (state : PlayState) (player after : PlayerState) → Keeps player after →
    PlayerKeeps player (Rattle.player_core.specs.Commands.unless_stopped state after)
unless_stopped_song Stop player after keeps = tt
unless_stopped_song Play player after keeps = keeps
unless_stopped_song Pause player after keeps = keeps

back_song : (entries : List Entry) (settings : PlaySettings) (player : PlayerState) (place : Option (ℕ × ℕ)) →
    Keeps player (gone_back entries settings player place)
back_song entries settings player None = λ h. h
back_song entries settings player (Some place) =
    one_of_two player (again_from place.1 player (without place.1 player.played))
    (started false player (in_front settings.options.repeat entries place.0 place.1)) settings.options.random (λ h. refl) (λ h. refl)

pub previous_song : (entries : List Entry) (settings : PlaySettings) (player : PlayerState) →
    PlayerKeeps player (previous_one entries settings player)
previous_song entries settings player =
    unless_stopped_song player.state player (gone_back entries settings player (placed entries player.current))
    (back_song entries settings player (placed entries player.current))

sought_current_song : (settings : PlaySettings) (song : SongLength) (time : SeekTime) (player : PlayerState) (current : Option ℕ) →
    Keeps player (sought_current settings song time player current)
sought_current_song settings song time player None = λ h. h
sought_current_song settings song time player (Some id) = λ h. or_right (is_stop (still player.state)) true refl

pub sought_here_song : (settings : PlaySettings) (song : SongLength) (time : SeekTime) (player : PlayerState) →
    PlayerKeeps player (sought_here settings song time player)
sought_here_song settings song time player =
    unless_stopped_song player.state player (sought_current settings song time player player.current)
    (sought_current_song settings song time player player.current)

pub puts_song : (made : Result PlayerState PlayerError) (m : MachineState) → PlayerKeeps m.player made → KeepsSong m (puts made m)
puts_song (Ok player) m keeps = keeps
puts_song (Err refusal) m keeps = tt

pub paused_song : (switch : Option Bool) (player : PlayerState) (state : PlayState) → player.state ≡ state →
    Keeps player (record player { state = paused switch state })
paused_song switch player Stop is = λ h. refl
paused_song switch player Play is =
    λ h. or_right (is_stop (paused_if (unwrap_or switch true))) (is_some player.current) (song_in player Play is refl h)
paused_song switch player Pause is =
    λ h. or_right (is_stop (paused_if (unwrap_or switch false))) (is_some player.current) (song_in player Pause is refl h)

pub halted_song : (state : PlayState) (player : PlayerState) → Keeps player (halted state player)
halted_song Stop player = λ h. h
halted_song Play player = λ h. refl
halted_song Pause player = λ h. refl
