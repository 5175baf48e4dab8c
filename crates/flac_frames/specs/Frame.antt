-- A frame (RFC 9639, section 9): a head, a subframe for each channel, zero bits up to a byte, and a CRC over all before it.
use Rattle.std.specs.Prelude.{◌≡◌, ℕ, ◌-◌, ◌/◌, ◌%◌, ◌==◌, Bool, List, [], ◌∷◌, length, take, ℤ, Result, Ok, Err, if◌then◌else◌}
use Rattle.flac_frames.specs.Bits.{bits_of}
use Rattle.flac_frames.specs.Reading.{Read, Reader, ◌>>=◌, giving, found, only_if, after, unsigned}
use Rattle.flac_frames.specs.FrameHead.{head_fields}
use Rattle.flac_frames.specs.Subframe.{subframe}
use Rattle.flac_frames.specs.Decorrelation.{first_width, second_width, stereo_from}
use Rattle.flac_frames.specs.Crc.{crc_8, crc_16}
use Rattle.flac_frames.specs.declared.head.Stream.{Stream}
use Rattle.flac_frames.specs.declared.head.FrameHead.{FrameHead}
use Rattle.flac_frames.specs.declared.head.Channels.{Channels}
use Rattle.flac_frames.specs.declared.head.Channels.TheVariants.{Mono, Stereo, LeftSide, SideRight, MidSide}
use Rattle.flac_frames.specs.declared.refusal.FrameError.{FrameError}
use Rattle.flac_frames.specs.declared.refusal.FrameError.TheVariants.{NoMemory, Ended, NoSync, Forbidden, TooLarge, TooManyChannels}
use Rattle.flac_frames.specs.declared.refusal.FrameError.TheVariants.{RateNotSupported, BitsNotSupported, HeadCrc, FrameCrc}

-- the bits in front of those that are left
unfoldable pub consumed : List Bool → List Bool → List Bool
consumed bits rest = take (length bits - length rest) bits

-- a reading, and behind it so many bits that repeat the check of the bits that were read
unfoldable pub guarded : {A : Type 0} → ℕ → (List Bool → ℕ) → FrameError → Reader A → Reader A
guarded width check error reader bits = after (reader bits) (λ value rest.
    (unsigned width >>= (λ code. only_if (code == check (consumed bits rest)) error value)) rest)

unfoldable pub frame_head : Stream → Reader FrameHead
frame_head stream = guarded 8 crc_8 HeadCrc (head_fields stream)

unfoldable pub two_channels : FrameHead → Reader (List (List ℤ))
two_channels head = do
  firsts ← subframe (first_width head.channels head.bits) head.block_size
  seconds ← subframe (second_width head.channels head.bits) head.block_size
  found (stereo_from head.channels head.bits firsts seconds)

unfoldable pub one_channel : FrameHead → Reader (List (List ℤ))
one_channel head = do
  samples ← subframe head.bits head.block_size
  giving (samples ∷ [])

abbrev pub is_mono : Channels → Bool
is_mono Mono = Bool.true
is_mono Stereo = Bool.false
is_mono LeftSide = Bool.false
is_mono SideRight = Bool.false
is_mono MidSide = Bool.false

unfoldable pub channel_samples : FrameHead → Reader (List (List ℤ))
channel_samples head = if is_mono head.channels then one_channel head else two_channels head

-- zero bits up to a whole number of bytes
unfoldable pub padding : Reader ℕ
padding bits = (unsigned (length bits % 8) >>= (λ zeros. only_if (zeros == 0) Forbidden zeros)) bits

-- what a frame says: its head, and the samples of each channel
pub record Frame : Type 0 where
  pub head : FrameHead
  pub samples : List (List ℤ)

unfoldable pub frame_fields : Stream → Reader Frame
frame_fields stream = do
  head ← frame_head stream
  samples ← channel_samples head
  _ ← padding
  giving (record { head = head; samples = samples })

unfoldable pub frame : Stream → Reader Frame
frame stream = guarded 16 crc_16 FrameCrc (frame_fields stream)

-- a frame at the front of bytes, and how many of them it takes
pub record Framed : Type 0 where
  pub frame : Frame
  pub used : ℕ

abbrev pub framed : ℕ → Result (Read Frame) FrameError → Result Framed FrameError
framed size (Ok read) = Ok (record { frame = read.value; used = size - length read.rest / 8 })
framed size (Err error) = Err error

-- the frame at the front of these bytes, or why there is none
unfoldable pub frame_of : Stream → List ℕ → Result Framed FrameError
frame_of stream bytes = framed (length bytes) (frame stream (bits_of bytes))

-- memory was wanting, or this is the refusal
abbrev pub Refuses : {A : Type 0} → Result A FrameError → FrameError → Type 0
Refuses reading NoMemory = Unit {0}
Refuses reading Ended = reading ≡ Err Ended
Refuses reading NoSync = reading ≡ Err NoSync
Refuses reading Forbidden = reading ≡ Err Forbidden
Refuses reading TooLarge = reading ≡ Err TooLarge
Refuses reading TooManyChannels = reading ≡ Err TooManyChannels
Refuses reading RateNotSupported = reading ≡ Err RateNotSupported
Refuses reading BitsNotSupported = reading ≡ Err BitsNotSupported
Refuses reading HeadCrc = reading ≡ Err HeadCrc
Refuses reading FrameCrc = reading ≡ Err FrameCrc
