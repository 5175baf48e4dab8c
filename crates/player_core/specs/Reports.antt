-- What the output's reports and a change of the queue, of a row or of `random` mean for the player.
use Rattle.std.specs.Prelude.{ℕ, ◌+◌, ◌-◌, Bool, true, false, not, ◌==◌, ◌&&◌, ◌||◌, nat_le, List, [], ◌∷◌, length, Option, Some, None, min}
use Rattle.std.specs.Prelude.{slice_get, if◌then◌else◌}
use Rattle.std.specs.Option.{option_map_or}
use Rattle.play_queue.specs.declared.entry.Entry.{Entry}
use Rattle.play_queue.specs.Entries.{Uris}
use Rattle.player_core.specs.declared.block.Block.{Block}
use Rattle.player_core.specs.declared.failure.BrokenCause.{BrokenCause}
use Rattle.player_core.specs.declared.failure.BrokenCause.TheVariants.{Source, Output}
use Rattle.player_core.specs.declared.failure.PlayFailure.{PlayFailure}
use Rattle.player_core.specs.declared.failure.PlayFailure.TheVariants.{CannotPlay, OutputFailed}
use Rattle.player_core.specs.declared.manners.Manners.{Manners}
use Rattle.player_core.specs.declared.manners.Manners.TheVariants.{Named, Mpd}
use Rattle.player_core.specs.declared.options.Single.TheVariants.{Off}
use Rattle.player_core.specs.declared.playing.PlayState.{PlayState}
use Rattle.player_core.specs.declared.playing.PlayState.TheVariants.{Stop, Play, Pause}
use Rattle.player_core.specs.declared.settings.PlaySettings.{PlaySettings}
use Rattle.player_core.specs.Staying.{takes}
use Rattle.player_core.specs.Choice.{chosen, placed}
use Rattle.player_core.specs.Player.{PlayerState, Step, unchanged, stopped, stopped_without_song, left_out}
use Rattle.player_core.specs.Ending.{is_on, over, repeats_one}
use Rattle.player_core.specs.Order.{current_entry}
use Rattle.player_core.specs.Commands.{stepped}

-- a report counts with the present ticket, in play and pause
abbrev pub counts : PlayState → ℕ → ℕ → Bool
counts Stop present ticket = false
counts Play present ticket = present == ticket
counts Pause present ticket = present == ticket

-- Fed adds frames, up to the frames of the song
abbrev pub fed : PlayerState → ℕ → ℕ → ℕ → PlayerState
fed player ticket frames total =
    if counts player.state player.ticket ticket then record player { frame = min (player.frame + frames) total } else player

abbrev pub failure : BrokenCause → List ℕ → PlayFailure
failure Source uri = CannotPlay uri
failure Output uri = OutputFailed

-- Broken stops the player, and the song stays current
abbrev pub broken : PlayerState → ℕ → BrokenCause → List ℕ → PlayerState
broken player ticket cause uri =
    if counts player.state player.ticket ticket then record player { state = Stop; error = Some (failure cause uri) } else player

-- MPD: a song that can't be read while it plays is passed by
abbrev pub passes_by : Manners → BrokenCause → PlayState → Bool
passes_by Named cause state = false
passes_by Mpd Output state = false
passes_by Mpd Source Stop = false
passes_by Mpd Source Play = true
passes_by Mpd Source Pause = false

-- A round of the queue is through with a song that can't be read where as many entries in a row before it could not be read as it has
-- others, or where the song is followed by itself alone.
abbrev pub is_through : List Entry → PlaySettings → ℕ → Bool
is_through entries settings failures = repeats_one settings.manners settings.options || nat_le (length entries - 1) failures

-- an entry that leaves under consume isn't counted; a random round that begins counts them anew
abbrev pub failures_in : Bool → Option ℕ → ℕ → ℕ
failures_in consume None failures = if consume then failures else failures + 1
failures_in consume (Some order) failures = 0

-- the failures stay of a song that is passed by: what follows it without single plays
abbrev pub passed : List Entry → PlaySettings → PlayerState → List ℕ → Step
passed entries settings player uri =
    let step = over entries settings Off player in
    record step {
      player = record step.player {
        error = Some (CannotPlay uri);
        failures = failures_in (is_on settings.options.consume) step.changes.order player.failures;
      };
    }

-- whether the song is passed by
abbrev pub passes : List Entry → PlaySettings → PlayerState → ℕ → BrokenCause → Bool
passes entries settings player ticket cause =
    passes_by settings.manners cause player.state && (player.ticket == ticket && not (is_through entries settings player.failures))

abbrev pub failed_of : List Entry → PlaySettings → PlayerState → ℕ → BrokenCause → Option Entry → Step
failed_of entries settings player ticket cause None = unchanged player
failed_of entries settings player ticket cause (Some entry) =
    if passes entries settings player ticket cause then passed entries settings player entry.uri
    else unchanged (broken player ticket cause entry.uri)

-- what the player does where the current song could not be played on
abbrev pub failed : List Entry → PlaySettings → PlayerState → ℕ → BrokenCause → Step
failed entries settings player ticket cause = failed_of entries settings player ticket cause (current_entry entries player.current)

-- a row that changes cuts the frame position to its frames
abbrev pub cut : ℕ → PlayerState → PlayerState
cut frames player = record player { frame = min player.frame frames }

-- the entry at a position leaves
abbrev pub takes_at : Block → Uris → List Entry → ℕ → Bool
takes_at block dropped entries at = option_map_or (takes block dropped at) (slice_get entries at) false

-- the next song that stays is started; MPD: not where the song is followed by itself alone
abbrev pub gone_on_without : List Entry → PlaySettings → Block → Uris → PlayerState → ℕ × ℕ → Step
gone_on_without entries settings block dropped player place =
    if repeats_one settings.manners settings.options then unchanged (stopped_without_song (left_out block dropped entries player))
    else stepped settings.options.random (left_out block dropped entries player)
    (chosen settings entries block dropped player.played place.0 place.1)

-- MPD: in pause the next song that stays is current then, and the player stops
abbrev pub gone_in_pause : Manners → List Entry → PlaySettings → Block → Uris → PlayerState → ℕ × ℕ → Step
gone_in_pause Named entries settings block dropped player place =
    unchanged (stopped_without_song (left_out block dropped entries player))
gone_in_pause Mpd entries settings block dropped player place =
    let step = gone_on_without entries settings block dropped player place in
    record step { player = stopped step.player }

-- the current entry leaves: in play the next song that stays is started; else the player stops without a current song
abbrev pub gone : PlayState → List Entry → PlaySettings → Block → Uris → PlayerState → ℕ × ℕ → Step
gone Play entries settings block dropped player place = gone_on_without entries settings block dropped player place
gone Pause entries settings block dropped player place =
    gone_in_pause settings.manners entries settings block dropped player place
gone Stop entries settings block dropped player place = unchanged (stopped_without_song (left_out block dropped entries player))

abbrev pub followed_at : List Entry → PlaySettings → Block → Uris → PlayerState → Option (ℕ × ℕ) → Step
followed_at entries settings block dropped player None = unchanged (left_out block dropped entries player)
followed_at entries settings block dropped player (Some place) =
    if takes_at block dropped entries place.0 then gone player.state entries settings block dropped player place
    else unchanged (left_out block dropped entries player)

-- what the player does when entries of the queue leave it; the entries are those before
abbrev pub followed : List Entry → PlaySettings → Block → Uris → PlayerState → Step
followed entries settings block dropped player = followed_at entries settings block dropped player (placed entries player.current)

abbrev pub only : Option ℕ → List ℕ
only None = []
only (Some id) = id ∷ []

-- where `random` begins, the played list has the current song alone; where it ends, nothing
abbrev pub turned : Bool → PlayerState → PlayerState
turned random player = record player { played = if random then only player.current else [] }
