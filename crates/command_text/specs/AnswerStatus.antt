-- The lines of `status`.
use Rattle.std.specs.Prelude.{ℕ, Bool, true, false, List, [], ◌∷◌, ◌++◌, Option, Some, None, option_copied, codes}
use Rattle.std.specs.List.{concat}
use Rattle.player_core.specs.declared.failure.PlayFailure.{PlayFailure}
use Rattle.player_core.specs.declared.options.Options.{Options}
use Rattle.player_core.specs.declared.options.Single.{Single}
use Rattle.player_core.specs.declared.options.Single.TheVariants.{Off, On, Oneshot}
use Rattle.player_core.specs.declared.playing.PlayState.{PlayState}
use Rattle.player_core.specs.declared.playing.PlayState.TheVariants.{Stop, Play, Pause}
use Rattle.player_core.specs.FailureText.{text_of}
use Rattle.song_db.specs.Row.{Row}
use Rattle.song_db.specs.Duration.{milliseconds}
use Rattle.command_text.specs.declared.answer.status.CurrentSong.{CurrentSong}
use Rattle.command_text.specs.declared.answer.status.StatusLines.{StatusLines}
use Rattle.command_text.specs.Answer.{pair, number_pair}
use Rattle.command_text.specs.AnswerTimes.{milliseconds_at, whole_seconds, exact_seconds}
use Rattle.command_text.specs.AnswerSongs.{format_text}

abbrev pub switch_text : Bool → List ℕ
switch_text false = codes "0"
switch_text true = codes "1"

abbrev pub single_text : Single → List ℕ
single_text Off = codes "0"
single_text On = codes "1"
single_text Oneshot = codes "oneshot"

abbrev pub state_text : PlayState → List ℕ
state_text Stop = codes "stop"
state_text Play = codes "play"
state_text Pause = codes "pause"

abbrev pub volume_line : ℕ → List ℕ
volume_line volume = number_pair (codes "volume") volume

abbrev pub setting_lines : ℕ → Options → List ℕ
setting_lines volume options = concat (
    volume_line volume
    ∷ pair (codes "repeat") (switch_text options.repeat)
    ∷ pair (codes "random") (switch_text options.random)
    ∷ pair (codes "single") (single_text options.single)
    ∷ pair (codes "consume") (single_text options.consume)
    ∷ [])

-- the position and the id of the current song
abbrev pub current_lines : Option CurrentSong → List ℕ
current_lines None = []
current_lines (Some song) = number_pair (codes "song") song.position ++ number_pair (codes "songid") song.id

-- the position and the id of the song that comes next
abbrev pub next_lines : Option (ℕ × ℕ) → List ℕ
next_lines None = []
next_lines (Some next) = number_pair (codes "nextsong") next.0 ++ number_pair (codes "nextsongid") next.1

-- how far a song has played, how long it is, and its format
abbrev pub time_lines : ℕ → Row → List ℕ
time_lines elapsed row = concat (
    pair (codes "time") (whole_seconds elapsed ++ (codes ":" ++ whole_seconds (milliseconds row)))
    ∷ pair (codes "elapsed") (exact_seconds elapsed)
    ∷ pair (codes "duration") (exact_seconds (milliseconds row))
    ∷ pair (codes "audio") (format_text row.rate row.channels)
    ∷ [])

abbrev pub played_lines : Option CurrentSong → List ℕ
played_lines None = []
played_lines (Some song) = time_lines (milliseconds_at song.row.now.rate song.frame) song.row.now

-- these are shown in play and in pause
abbrev pub playing_lines : PlayState → Option CurrentSong → List ℕ
playing_lines Stop current = []
playing_lines Play current = played_lines current
playing_lines Pause current = played_lines current

abbrev pub job_line : ℕ → List ℕ
job_line job = number_pair (codes "updating_db") job

-- the job that runs
abbrev pub job_lines : Option ℕ → List ℕ
job_lines None = []
job_lines (Some job) = job_line job

abbrev pub error_lines : Option PlayFailure → List ℕ
error_lines None = []
error_lines (Some failure) = pair (codes "error") (text_of failure)

-- what failed, or else that nobody reads what sounds
abbrev pub told_errors : Option PlayFailure → Bool → List ℕ
told_errors None false = []
told_errors None true = pair (codes "error") (codes "nobody reads the output")
told_errors (Some failure) is_unread = error_lines (Some failure)

abbrev pub status_lines : StatusLines → List ℕ
status_lines status = concat (
    setting_lines status.volume status.options
    ∷ number_pair (codes "playlist") status.version
    ∷ number_pair (codes "playlistlength") status.length
    ∷ pair (codes "state") (state_text status.state)
    ∷ current_lines status.current
    ∷ next_lines status.next
    ∷ playing_lines status.state status.current
    ∷ job_lines status.job
    ∷ told_errors (option_copied status.error) status.is_unread
    ∷ [])
