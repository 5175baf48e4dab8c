-- The lines of what the daemon is set up with.
use Rattle.std.specs.Prelude.{ℕ, List, [], ◌∷◌, ◌++◌, codes}
use Rattle.std.specs.List.{concat}
use Rattle.profile.specs.declared.profile.Profile.{Profile}
use Rattle.profile.specs.declared.profile.Profile.TheVariants.{Named, Wide}
use Rattle.command_text.specs.declared.command.setup.SetupCommand.{SetupCommand}
use Rattle.command_text.specs.declared.command.setup.SetupCommand.TheVariants as commands
use Rattle.command_text.specs.Answer.{pair}

abbrev pub output_lines : List ℕ
output_lines = concat (
    pair (codes "outputid") (codes "0")
    ∷ pair (codes "outputname") (codes "output")
    ∷ pair (codes "plugin") (codes "raw")
    ∷ pair (codes "outputenabled") (codes "1")
    ∷ [])

abbrev pub wave_lines : List ℕ
wave_lines = concat (
    pair (codes "plugin") (codes "wave")
    ∷ pair (codes "suffix") (codes "wav")
    ∷ pair (codes "suffix") (codes "wave")
    ∷ pair (codes "mime_type") (codes "audio/wav")
    ∷ pair (codes "mime_type") (codes "audio/x-wav")
    ∷ pair (codes "mime_type") (codes "audio/wave")
    ∷ [])

abbrev pub flac_lines : List ℕ
flac_lines = concat (
    pair (codes "plugin") (codes "flac")
    ∷ pair (codes "suffix") (codes "flac")
    ∷ pair (codes "mime_type") (codes "audio/flac")
    ∷ pair (codes "mime_type") (codes "audio/x-flac")
    ∷ [])

-- what the daemon reads by itself, whichever of it `formats` has as songs
abbrev pub decoder_lines : List ℕ
decoder_lines = wave_lines ++ flac_lines

abbrev pub partition_line : List ℕ
partition_line = pair (codes "partition") (codes "default")

abbrev pub setup_lines : SetupCommand → List ℕ
setup_lines (commands.BinaryLimit limit) = []
setup_lines commands.Decoders = decoder_lines
setup_lines commands.Mounts = pair (codes "mount") []
setup_lines commands.Nothing = []
setup_lines commands.Outputs = output_lines
setup_lines commands.Partitions = partition_line
setup_lines commands.ReplayGain = pair (codes "replay_gain_mode") (codes "off")

-- what `status` tells of it behind its other lines
abbrev pub setup_status : Profile → List ℕ
setup_status Named = []
setup_status Wide = partition_line ++ pair (codes "mixrampdb") (codes "0")
