-- The commands of the settings.
use Rattle.std.specs.Prelude.{ℕ, ◌==◌, List, [], ◌∷◌, Bool, true, false, Option, None, Result, Ok, if◌then◌else◌}
use Rattle.std.specs.Option.{option_map}
use Rattle.player_core.specs.declared.options.Single.{Single}
use Rattle.command_text.specs.declared.command.settings.SettingsCommand.{SettingsCommand}
use Rattle.command_text.specs.declared.command.settings.SettingsCommand.TheVariants as commands
use Rattle.command_text.specs.declared.command.settings.VolumeStep.{VolumeStep}
use Rattle.command_text.specs.declared.refusal.CommandRefusal.{CommandRefusal}
use Rattle.command_text.specs.declared.topic.SettingsName.{SettingsName}
use Rattle.command_text.specs.declared.topic.SettingsName.TheVariants as names
use Rattle.command_text.specs.Arguments.{switch_of, single_of, number_to}
use Rattle.command_text.specs.Counts.{◌>>=◌, Word, no_argument, one_argument, argument}

-- the one argument is a switch
abbrev pub one_switch : List Word → Result Bool CommandRefusal
one_switch words = one_argument words >>= λ word. argument 1 (switch_of word)

-- the one argument is `0`, `1` or `oneshot`
abbrev pub one_single : List Word → Result Single CommandRefusal
one_single words = one_argument words >>= λ word. argument 1 (single_of word)

abbrev pub step_by : Bool → ℕ → VolumeStep
step_by is_down by = record { is_down = is_down; by = by }

-- how the volume changes: `N` or `+N` upwards, `-N` downwards, by at most 100
unfoldable pub step_of : Word → Option VolumeStep
step_of [] = None
step_of (c ∷ rest) =
    if c == 45 then option_map (step_by true) (number_to 100 rest)
    else (if c == 43 then option_map (step_by false) (number_to 100 rest) else option_map (step_by false) (number_to 100 (c ∷ rest)))

unfoldable pub settings_of : SettingsName → List Word → Result SettingsCommand CommandRefusal
settings_of names.ChangeVolume words = do
  word ← one_argument words
  step ← argument 1 (step_of word)
  Ok (commands.ChangeVolume step)
settings_of names.Close words = no_argument commands.Close words
settings_of names.Consume words = one_single words >>= λ consume. Ok (commands.Consume consume)
settings_of names.GetVolume words = no_argument commands.GetVolume words
settings_of names.Kill words = no_argument commands.Kill words
settings_of names.Ping words = no_argument commands.Ping words
settings_of names.Random words = one_switch words >>= λ on. Ok (commands.Random on)
settings_of names.Repeat words = one_switch words >>= λ on. Ok (commands.Repeat on)
settings_of names.SetVolume words = do
  word ← one_argument words
  volume ← argument 1 (number_to 100 word)
  Ok (commands.SetVolume volume)
settings_of names.Single words = one_single words >>= λ single. Ok (commands.Single single)
settings_of names.Status words = no_argument commands.Status words
