-- The sound that an order asks for: samples of its file, as the bytes that an output gets.
use Rattle.std.specs.Prelude.{ℕ, zero, suc, ◌-◌, List, [], ◌++◌, length, Option, Some, None, Result, Ok, Err, min, map, ℤ, IsErrAnd}
use Rattle.std.specs.Int.{w16, cast_unsigned, to_le_bytes}
use Rattle.std.specs.List.{flat_map}
use Rattle.song_files.specs.Folder.{File, bytes_at}
use Rattle.song_files.specs.declared.tag_set.TheConstants.TagSet.{NONE}
use Rattle.wave_pcm.specs.Pcm.{frames_from, at_volume}
use Rattle.wave_pcm.specs.Reading.{wave_reading, IsVerdict}
use Rattle.wave_pcm.specs.declared.info.WaveInfo.{WaveInfo}
use Rattle.wave_pcm.specs.declared.refusal.WaveError.{WaveError}
use Rattle.player_core.specs.declared.order.PlayOrder.{PlayOrder}
use Rattle.song_output.specs.declared.output.Form.{Form}
use Rattle.song_output.specs.declared.output.Form.TheVariants.{Bare, Wave}
use Rattle.song_output.specs.Wave.{wave_head}

-- how many frames are played for one order at most
abbrev pub most_frames : ℕ
most_frames = 4096

-- how many frames those are, from one frame on
abbrev pub frames_given : WaveInfo → ℕ → ℕ
frames_given info first = min (info.frames - first) most_frames

-- two bytes a sample, the low one first
abbrev pub sample_bytes : ℤ → List ℕ
sample_bytes sample = to_le_bytes w16 (cast_unsigned w16 sample)

abbrev pub bytes_of : List ℤ → List ℕ
bytes_of samples = flat_map sample_bytes samples

-- what stands in front of so many bytes of samples: nothing, or the head of a WAVE file where there are some
abbrev pub head_in : Form → WaveInfo → ℕ → List ℕ
head_in Bare info len = []
head_in Wave info zero = []
head_in Wave info (suc len) = wave_head info.rate info.channels (suc len)

-- samples in a form: as they are, or as a WAVE file of their own
abbrev pub in_form : Form → WaveInfo → List ℕ → List ℕ
in_form form info sound = head_in form info (length sound) ++ sound

-- the frames of a file from one frame on, at a volume and in a form
abbrev pub sound_from : Form → List ℕ → WaveInfo → ℕ → ℕ → List ℕ
sound_from form file info first volume = in_form form info (bytes_of (map (at_volume volume) (frames_from file info first most_frames)))

-- what the head of a file tells; of its tags none is played
abbrev pub head_of : List ℕ → Result WaveInfo WaveError
head_of file = wave_reading file NONE

-- what an order asks for of a file, by the reading of its head; a file without a reading has no sound
abbrev pub sound_by : Form → Result WaveInfo WaveError → List ℕ → PlayOrder → List ℕ
sound_by form (Ok info) file order = sound_from form file info order.first_frame order.volume
sound_by form (Err e) file order = []

abbrev pub sound_in : Form → Option (List ℕ) → PlayOrder → List ℕ
sound_in form None order = []
sound_in form (Some file) order = sound_by form (head_of file) file order

-- what an order asks for of these files
abbrev pub ordered_sound : Form → List File → PlayOrder → List ℕ
ordered_sound form files order = sound_in form (bytes_at files order.uri) order

-- there is no such file, or its head is refused
abbrev pub HasNoSound : Option (List ℕ) → Type 0
HasNoSound None = Unit {0}
HasNoSound (Some file) = IsErrAnd (head_of file) IsVerdict
