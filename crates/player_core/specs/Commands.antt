-- What the commands of playback do: `play`, `pause`, `stop`, `next`, `previous`.
use Rattle.std.specs.Prelude.{ℕ, Bool, true, false, ◌==◌, List, [], ◌∷◌, take, slice_get, unwrap_or, if◌then◌else◌}
use Rattle.std.specs.Prelude.{Option, Some, None, Result, Ok, Err}
use Rattle.std.specs.List.{list_any}
use Rattle.play_queue.specs.declared.entry.Entry.{Entry}
use Rattle.play_queue.specs.Queue.{ids_of}
use Rattle.player_core.specs.declared.choice.Choice.{Choice}
use Rattle.player_core.specs.declared.options.Single.TheVariants.{Off}
use Rattle.player_core.specs.declared.playing.PlayState.{PlayState}
use Rattle.player_core.specs.declared.playing.PlayState.TheVariants.{Stop, Play, Pause}
use Rattle.player_core.specs.declared.refusal.PlayerError.{PlayerError}
use Rattle.player_core.specs.declared.refusal.PlayerError.TheVariants.{BadIndex, NoSuchSong, NotPlaying}
use Rattle.player_core.specs.declared.settings.PlaySettings.{PlaySettings}
use Rattle.player_core.specs.declared.selector.Selector.{Selector}
use Rattle.player_core.specs.declared.selector.Selector.TheVariants.{Position, Id}
use Rattle.player_core.specs.Words.{next_order}
use Rattle.player_core.specs.Choice.{this_round, first_chosen, placed}
use Rattle.player_core.specs.Player.{PlayerState, Step, unchanged, no_changes, next_ticket, without, started, gone_on}
use Rattle.player_core.specs.Ending.{over}

abbrev pub id_at : Option Entry → Result ℕ PlayerError
id_at None = Err BadIndex
id_at (Some entry) = Ok entry.id

-- the id of the entry that is named
abbrev pub named : Selector → List Entry → Result ℕ PlayerError
named (Position position) entries = id_at (slice_get entries position)
named (Id id) entries = if list_any (λ entry. entry.id == id) entries then Ok id else Err NoSuchSong

-- a song that a command starts from no current song begins a random round
abbrev pub begun : PlaySettings → Option ℕ → ℕ → Choice
begun settings None id = record { id = Some id; order = if settings.options.random then Some (next_order settings.order) else None }
begun settings (Some current) id = this_round (Some id)

-- the player goes on to a choice, of which only the order number is saved
abbrev pub stepped : Bool → PlayerState → Choice → Step
stepped random player choice = record { player = gone_on random player choice; changes = record no_changes { order = choice.order } }

-- `play` of an entry
abbrev pub played_from : PlaySettings → PlayerState → ℕ → Step
played_from settings player id = stepped settings.options.random player (begun settings player.current id)

abbrev pub stepped_if_any : Bool → PlayerState → Choice → Option ℕ → Step
stepped_if_any random player choice None = unchanged player
stepped_if_any random player choice (Some id) = stepped random player choice

-- what `play` without an argument starts in stop: the current song, else the first one; in an empty queue nothing
abbrev pub to_resume : PlaySettings → List Entry → Option ℕ → Choice
to_resume settings entries None = first_chosen settings entries
to_resume settings entries (Some current) = this_round (Some current)

-- `play` without an argument
abbrev pub resumed : PlayState → List Entry → PlaySettings → PlayerState → Step
resumed Play entries settings player = unchanged player
resumed Pause entries settings player = unchanged (record player { state = Play })
resumed Stop entries settings player =
    let choice = to_resume settings entries player.current in
    stepped_if_any settings.options.random player choice choice.id

abbrev pub paused_if : Bool → PlayState
paused_if pauses = if pauses then Pause else Play

-- `pause`, with a switch, or to the other one; in stop it does nothing
abbrev pub paused : Option Bool → PlayState → PlayState
paused switch Stop = Stop
paused switch Play = paused_if (unwrap_or switch true)
paused switch Pause = paused_if (unwrap_or switch false)

-- `stop` keeps the current song at frame 0 with a new ticket; in stop it does nothing
abbrev pub halted : PlayState → PlayerState → PlayerState
halted Stop player = player
halted Play player = record player { state = Stop; frame = 0; ticket = next_ticket player.ticket }
halted Pause player = record player { state = Stop; frame = 0; ticket = next_ticket player.ticket }

-- a command that wants something to play is refused in stop
abbrev pub unless_stopped : {T : Type 0} → PlayState → T → Result T PlayerError
unless_stopped Stop answer = Err NotPlaying
unless_stopped Play answer = Ok answer
unless_stopped Pause answer = Ok answer

-- `next` does what the end of the song does, with single taken as off
abbrev pub next_one : List Entry → PlaySettings → PlayerState → Result Step PlayerError
next_one entries settings player = unless_stopped player.state (over entries settings Off player)

-- the last of some ids, or else this one
abbrev pub last_or : ℕ → List ℕ → ℕ
last_or other [] = other
last_or other (id ∷ ids) = last_or id ids

-- the id in front of the current one; at 0 the last with repeat, else the current one
abbrev pub in_front : Bool → List Entry → ℕ → ℕ → ℕ
in_front repeat entries at current = last_or (if repeat then last_or current (ids_of entries) else current) (ids_of (take at entries))

-- the last of the ids that are left in the played list is started, else the current one
abbrev pub again_from : ℕ → PlayerState → List ℕ → PlayerState
again_from current player left = started true (record player { played = left }) (last_or current left)

-- `previous`; in random mode the current id leaves the played list first
abbrev pub gone_back : List Entry → PlaySettings → PlayerState → Option (ℕ × ℕ) → PlayerState
gone_back entries settings player None = player
gone_back entries settings player (Some place) =
    if settings.options.random then again_from place.1 player (without place.1 player.played)
    else started false player (in_front settings.options.repeat entries place.0 place.1)

abbrev pub previous_one : List Entry → PlaySettings → PlayerState → Result PlayerState PlayerError
previous_one entries settings player = unless_stopped player.state (gone_back entries settings player (placed entries player.current))
