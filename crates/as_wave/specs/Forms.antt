-- What a file stands for, by the forms that are taken, and the files of a folder so.
use Rattle.std.specs.Prelude.{ℕ, List, map, Option, None, unwrap_or, Bool, if◌then◌else◌, ◌≡◌}
use Rattle.std.specs.List.{All}
use Rattle.std.specs.Option.{option_or}
use Rattle.song_files.specs.Folder.{File}
use Rattle.as_wave.specs.FlacWave.{flac_wave}
use Rattle.as_wave.specs.StandsFor.{converted}
use Rattle.as_wave.specs.declared.forms.Forms.{Forms}

-- a form that is taken
abbrev pub taken : Bool → Option (List ℕ) → Option (List ℕ)
taken yes' wave = if yes' then wave else None

-- the WAVE file that it stands for, or the file itself
abbrev pub as_wave : Forms → List ℕ → List ℕ
as_wave forms file = unwrap_or (option_or (taken forms.wave_pcm (converted file)) (taken forms.flac (flac_wave file))) file

-- the same paths
abbrev pub waves_of : Forms → List File → List File
waves_of forms files = map (λ (file : File). record file { bytes = as_wave forms file.bytes }) files

-- nothing has to be decoded for it, for which memory may be wanting
abbrev pub IsPlain : Forms → List ℕ → Type 0
IsPlain forms file = taken forms.flac (flac_wave file) ≡ None

abbrev pub ArePlain : Forms → List File → Type 0
ArePlain forms files = All (λ (file : File). IsPlain forms file.bytes) files
