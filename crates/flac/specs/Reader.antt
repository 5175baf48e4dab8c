-- What a reader of samples knows of the file.
use Rattle.std.specs.Prelude.{◌≡◌, ℕ, ◌+◌, ◌*◌, ◌≤◌, ◌<◌, List, length, take, drop, ℤ, Bool, true, false, Option, Some, None, IfSome, Result, IsErr}
use Rattle.std.specs.List.{All}
use Rattle.flac_frames.specs.Decoder.{samples_of}
use Rattle.flac_frames.specs.Frame.{Framed}
use Rattle.flac_frames.specs.declared.refusal.FrameError.{FrameError}
use Rattle.flac.specs.Frames.{side_by_side, samples_in, limited}
use Rattle.flac.specs.declared.decoding.Decoded.{Decoded}
use Rattle.flac.specs.declared.places.Place.{Place}
use Rattle.flac.specs.declared.places.Held.{Held}
use Rattle.flac.specs.declared.reader.FlacReader.{FlacReader}
use Rattle.flac.specs.declared.stream_info.StreamInfo.{StreamInfo}

-- a frame was found, and these are its samples
abbrev pub AreDecoded : Option Framed → Option Decoded → List (List ℤ) → Type 0
AreDecoded None None samples = Unit {0}
AreDecoded None (Some decoded) samples = ⊥
AreDecoded (Some framed) None samples = ⊥
AreDecoded (Some framed) (Some decoded) samples =
    (framed.used ≡ decoded.used) × (framed.frame.samples ≡ samples) × (length (side_by_side samples) ≡ decoded.size)

-- there is no frame
abbrev pub IsRefused : Result Framed FrameError → Type 0
IsRefused reading = IsErr reading

-- the samples of all frames
abbrev pub all_samples : StreamInfo → ℕ → List ℕ → List ℤ
all_samples info start file = samples_in info (drop start file)

-- the frames from the place on have the samples from there on
pub record IsPlace (info : StreamInfo) (start : ℕ) (file : List ℕ) (place : Place) : Type 0 where
  pub within : info.channels * place.sample ≤ length (all_samples info start file)
  pub there : drop (info.channels * place.sample) (all_samples info start file) ≡ samples_in info (drop place.offset file)

-- these are the samples of a frame, and the place behind it
pub record AreHeld (info : StreamInfo) (start : ℕ) (file : List ℕ) (samples : List ℤ) (held : Held) : Type 0 where
  pub size : length samples ≡ info.channels * held.count
  pub here : take (info.channels * held.count) (drop (info.channels * held.first) (all_samples info start file)) ≡ samples
  pub next : IsPlace info start file (record { sample = held.first + held.count; offset = held.offset })

-- the places that a reader knows are those of frames, and so is the frame that it holds
pub record IsReaderOf (file : List ℕ) (reader : FlacReader) : Type 0 where
  pub places : All (IsPlace reader.info reader.start file) reader.places.items
  pub held : IfSome reader.held (AreHeld reader.info reader.start file (side_by_side (samples_of reader.decoder)))

-- the samples that a reader reads
abbrev pub samples_for : FlacReader → List ℕ → List ℤ
samples_for reader file = limited reader.info (all_samples reader.info reader.start file)

abbrev pub channels_of : FlacReader → ℕ
channels_of reader = reader.info.channels

-- what STREAMINFO tells, or 0
abbrev pub total_of : FlacReader → ℕ
total_of reader = reader.info.samples

-- how many samples each channel has: what STREAMINFO tells, or else what the frames have
pub record IsCount (reader : FlacReader) (file : List ℕ) (count : ℕ) : Type 0 where
  pub told : 0 < reader.info.samples → count ≡ reader.info.samples
  pub found : reader.info.samples ≡ 0 → reader.info.channels * count ≡ length (all_samples reader.info reader.start file)

-- the frame that is held has this sample
abbrev pub Holds : ℕ → Option Held → Type 0
Holds sample None = ⊥
Holds sample (Some held) = (held.first ≤ sample) × (sample < held.first + held.count)

-- what was looked for is held, or stands behind the last frame
abbrev pub IsFound : FlacReader → List ℕ → ℕ → Bool → Type 0
IsFound reader file sample true = Holds sample reader.held
IsFound reader file sample false = length (all_samples reader.info reader.start file) ≤ reader.info.channels * sample

-- the reader reads the same stream
abbrev pub SameStream : FlacReader → FlacReader → Type 0
SameStream old new = (new.info ≡ old.info) × (new.start ≡ old.start)
