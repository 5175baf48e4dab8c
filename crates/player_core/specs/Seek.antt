-- Seeking.
use Rattle.std.specs.Prelude.{ℕ, ◌+◌, ◌-◌, ◌*◌, ◌/◌, Option, Some, None, Result, min}
use Rattle.player_core.specs.declared.playing.PlayState.{PlayState}
use Rattle.player_core.specs.declared.playing.PlayState.TheVariants.{Stop, Play, Pause}
use Rattle.player_core.specs.declared.refusal.PlayerError.{PlayerError}
use Rattle.player_core.specs.declared.seek.SeekTime.{SeekTime}
use Rattle.player_core.specs.declared.seek.SeekTime.TheVariants.{To, Forward, Back}
use Rattle.player_core.specs.declared.seek.SongLength.{SongLength}
use Rattle.player_core.specs.declared.settings.PlaySettings.{PlaySettings}
use Rattle.player_core.specs.Choice.{this_round}
use Rattle.player_core.specs.Player.{PlayerState, Step, gone_on}
use Rattle.player_core.specs.Commands.{played_from, unless_stopped}

-- the frame at a time in milliseconds, rounded down
abbrev pub frame_at : SongLength → ℕ → ℕ
frame_at song milliseconds = milliseconds * song.rate / 1000

-- pause stays pause
abbrev pub still : PlayState → PlayState
still Pause = Pause
still Play = Play
still Stop = Play

-- a player that has just started a song is put to a frame, at most the last of the song
abbrev pub put_to : PlayState → SongLength → ℕ → PlayerState → PlayerState
put_to state song frame player = record player { state = still state; frame = min frame song.frames }

-- `seek` of an entry starts it there
abbrev pub sought : PlaySettings → SongLength → ℕ → PlayerState → ℕ → Step
sought settings song milliseconds player id =
    let step = played_from settings player id in
    record step { player = put_to player.state song (frame_at song milliseconds) step.player }

-- the frame that `seekcur` names, from the present one
abbrev pub frame_from : SongLength → ℕ → SeekTime → ℕ
frame_from song frame (To milliseconds) = frame_at song milliseconds
frame_from song frame (Forward milliseconds) = frame + frame_at song milliseconds
frame_from song frame (Back milliseconds) = frame - frame_at song milliseconds

abbrev pub sought_current : PlaySettings → SongLength → SeekTime → PlayerState → Option ℕ → PlayerState
sought_current settings song time player None = player
sought_current settings song time player (Some id) =
    put_to player.state song (frame_from song player.frame time) (gone_on settings.options.random player (this_round (Some id)))

-- `seekcur`
abbrev pub sought_here : PlaySettings → SongLength → SeekTime → PlayerState → Result PlayerState PlayerError
sought_here settings song time player = unless_stopped player.state (sought_current settings song time player player.current)
