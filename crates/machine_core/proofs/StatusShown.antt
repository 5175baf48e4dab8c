-- What `status` shows goes by values, wherever they lie in memory.
use Rattle.std.proofs.Common.{◌≡◌, [], ◌∷◌, ◌++◌, Option, Some, None, refl, codes}
use Rattle.std.specs.List.{concat}
use Rattle.std.specs.Option.{option_map, option_copied}
use Rattle.command_text.specs.Answer.{pair, number_pair}
use Rattle.command_text.specs.AnswerSetup.{setup_status}
use Rattle.command_text.specs.AnswerStatus.{setting_lines, state_text, current_lines, next_lines}
use Rattle.command_text.specs.AnswerStatus.{played_lines, playing_lines, job_lines, told_errors}
use Rattle.command_text.specs.AnswerStatus.{status_lines}
use Rattle.command_text.specs.declared.answer.status.CurrentSong.{CurrentSong}
use Rattle.command_text.specs.declared.answer.status.StatusLines.{StatusLines}
use Rattle.player_core.specs.declared.failure.PlayFailure.{PlayFailure}
use Rattle.player_core.specs.declared.playing.PlayState.{PlayState}
use Rattle.player_core.specs.declared.playing.PlayState.TheVariants.{Stop, Play, Pause}
use Rattle.command_text.specs.declared.command.settings.SettingsCommand.TheVariants.{Status}
use Rattle.machine_core.specs.Lent.{lent}
use Rattle.machine_core.specs.Meaning.{says}
use Rattle.machine_core.specs.Settings.{settings_meaning, status_of}
use Rattle.machine_core.specs.State.{MachineState}

same_playing : (a b : PlayState) (x y : Option CurrentSong) → a ≡ b → played_lines x ≡ played_lines y
    → playing_lines a x ≡ playing_lines b y
same_playing a b x y e p = rw e (in_state b) where
  in_state : (s : PlayState) → playing_lines s x ≡ playing_lines s y
  in_state Stop = refl
  in_state Play = p
  in_state Pause = p

pub lent_error : (error : Option PlayFailure) → option_copied (option_map (λ failure. lent failure) error) ≡ error
lent_error None = refl
lent_error (Some failure) = refl

module _ (s t : StatusLines) (volume : s.volume ≡ t.volume) (options : s.options ≡ t.options) (version : s.version ≡ t.version)
    (length : s.length ≡ t.length) (state : s.state ≡ t.state) (next : s.next ≡ t.next) (job : s.job ≡ t.job)
    (unread : s.is_unread ≡ t.is_unread) where
  pub same_status : current_lines s.current ≡ current_lines t.current → played_lines s.current ≡ played_lines t.current
      → option_copied s.error ≡ option_copied t.error → status_lines s ≡ status_lines t
  same_status current played error =
      let playing : playing_lines s.state s.current ≡ playing_lines t.state t.current =
      same_playing s.state t.state s.current t.current state played in
      λ i. concat (
      setting_lines (volume i) (options i)
      ∷ number_pair (codes "playlist") (version i)
      ∷ number_pair (codes "playlistlength") (length i)
      ∷ pair (codes "state") (state_text (state i))
      ∷ current i
      ∷ next_lines (next i)
      ∷ playing i
      ∷ job_lines (job i)
      ∷ told_errors (error i) (unread i)
      ∷ [])

pub status_means : (m : MachineState) → settings_meaning Status m ≡ says (status_lines (status_of m) ++ setup_status m.saved.profile) m
unfolding settings_meaning
status_means m = refl
