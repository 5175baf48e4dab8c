-- A frame behind its head.
use Rattle.std.specs.Prelude.{◌≡◌, Result, Ok, Err, ◌==◌, List, Bool, [], ◌∷◌, ℤ, if◌then◌else◌}
use Rattle.flac_frames.specs.Reading.{Reader, ◌>>=◌, giving, only_if, after, unsigned}
use Rattle.flac_frames.specs.Frame.{Frame, channel_samples, padding, consumed, is_mono}
use Rattle.flac_frames.specs.Crc.{crc_16}
use Rattle.flac_frames.specs.declared.head.FrameHead.{FrameHead}
use Rattle.flac_frames.specs.declared.head.Channels.{Channels}
use Rattle.flac_frames.specs.declared.refusal.FrameError.{FrameError}
use Rattle.flac_frames.specs.declared.refusal.FrameError.TheVariants.{FrameCrc}

-- the samples of each channel
abbrev pub shown : Channels → List ℤ → List ℤ → List (List ℤ)
shown channels first second = if is_mono channels then first ∷ [] else first ∷ second ∷ []

-- the subframes and the zero bits behind them
unfoldable pub frame_body : FrameHead → Reader Frame
frame_body head = do
  samples ← channel_samples head
  _ ← padding
  giving (record { head = head; samples = samples })

-- the same, and the check over the bits of the whole frame
unfoldable pub frame_from : FrameHead → List Bool → Reader Frame
frame_from head whole bits = after (frame_body head bits) (λ value rest.
    (unsigned 16 >>= (λ code. only_if (code == crc_16 (consumed whole rest)) FrameCrc value)) rest)

-- two channels were read, or this is why not
abbrev pub ReadsPair : {B : Type 0} → Reader (List (List ℤ)) → List Bool → Result B FrameError → List ℤ → List ℤ → List Bool → Type 0
ReadsPair reader bits (Ok done) first second rest = reader bits ≡ Ok (record { value = first ∷ second ∷ []; rest = rest })
ReadsPair reader bits (Err error) first second rest = reader bits ≡ Err error

-- the channels were read, or this is why not
abbrev pub ReadsShown : {B : Type 0} → Reader (List (List ℤ)) → List Bool → Result B FrameError → Channels → List ℤ → List ℤ
    → List Bool → Type 0
ReadsShown reader bits (Ok done) channels first second rest = reader bits ≡ Ok (record { value = shown channels first second; rest = rest })
ReadsShown reader bits (Err error) channels first second rest = reader bits ≡ Err error

-- a frame with this head was read, or this is why not
abbrev pub ReadsFrame : {B : Type 0} → Reader Frame → List Bool → Result B FrameError → FrameHead → List ℤ → List ℤ → List Bool → Type 0
ReadsFrame reader bits (Ok done) head first second rest =
    reader bits ≡ Ok (record { value = record { head = head; samples = shown head.channels first second }; rest = rest })
ReadsFrame reader bits (Err error) head first second rest = reader bits ≡ Err error
