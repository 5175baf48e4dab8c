-- The frames of a file, one behind the other, and their samples.
use Rattle.std.specs.Prelude.{ℕ, zero, suc, ◌-◌, ◌*◌, ◌==◌, ◌&&◌, nat_lt, nat_le, min, List, [], ◌∷◌, length, take, drop, ℤ, Bool}
use Rattle.std.specs.Prelude.{Option, Some, None, Result, Ok, Err, if◌then◌else◌}
use Rattle.std.specs.List.{flat_map}
use Rattle.std.specs.Option.{option_or}
use Rattle.flac_frames.specs.Frame.{Frame, Framed, frame_of}
use Rattle.flac_frames.specs.declared.head.Channels.{Channels}
use Rattle.flac_frames.specs.declared.head.Channels.TheVariants.{Mono, Stereo, LeftSide, SideRight, MidSide}
use Rattle.flac_frames.specs.declared.head.FrameHead.{FrameHead}
use Rattle.flac_frames.specs.declared.head.Stream.{Stream}
use Rattle.flac_frames.specs.declared.refusal.FrameError.{FrameError}
use Rattle.flac.specs.Limits.{MAX_FRAME_BYTES}
use Rattle.flac.specs.declared.head.FlacHead.{FlacHead}
use Rattle.flac.specs.declared.stream_info.StreamInfo.{StreamInfo}

-- what the heads of frames may leave to STREAMINFO
abbrev pub stream_of : StreamInfo → Stream
stream_of info = record { rate = info.rate; bits = info.bits }

abbrev pub channel_count : Channels → ℕ
channel_count Mono = 1
channel_count Stereo = 2
channel_count LeftSide = 2
channel_count SideRight = 2
channel_count MidSide = 2

-- a frame has the format that STREAMINFO tells
abbrev pub has_format : StreamInfo → FrameHead → Bool
has_format info head = channel_count head.channels == info.channels && head.rate == info.rate && head.bits == info.bits

-- the samples of two channels in turn
abbrev pub in_turn : List ℤ → List ℤ → List ℤ
in_turn [] ys = []
in_turn (x ∷ xs) [] = []
in_turn (x ∷ xs) (y ∷ ys) = x ∷ y ∷ in_turn xs ys

-- the samples of one or two channels, those of one moment side by side
abbrev pub side_by_side : List (List ℤ) → List ℤ
side_by_side [] = []
side_by_side (xs ∷ []) = xs
side_by_side (xs ∷ ys ∷ others) = in_turn xs ys

-- a frame of so many bytes at most, with that format and all its samples
abbrev pub belongs : StreamInfo → ℕ → Framed → Bool
belongs info size framed =
    has_format info framed.frame.head && nat_lt 0 framed.used && nat_le framed.used size && length (side_by_side
    framed.frame.samples) == info.channels * framed.frame.head.block_size

abbrev pub accepted : StreamInfo → ℕ → Result Framed FrameError → Option Framed
accepted info size (Ok framed) = if belongs info size framed then Some framed else None
accepted info size (Err error) = None

-- the frame of the stream at the front of these bytes
unfoldable pub frame_in : StreamInfo → List ℕ → Option Framed
frame_in info bytes = accepted info (length bytes) (frame_of (stream_of info) bytes)

-- within how many bytes a frame is looked for first: as many as STREAMINFO tells of, where that is known
abbrev pub frame_room : StreamInfo → ℕ
frame_room info = if info.max_frame == 0 then MAX_FRAME_BYTES else min info.max_frame MAX_FRAME_BYTES

-- The frame at the front of these bytes. STREAMINFO may tell of too few bytes: a longer frame is one too.
unfoldable pub next_frame : StreamInfo → List ℕ → Option Framed
next_frame info bytes = option_or (frame_in info (take (frame_room info) bytes)) (frame_in info (take MAX_FRAME_BYTES bytes))

-- what a frame and those behind it are
abbrev pub frame_then : Option Framed → (ℕ → List Frame) → List Frame
frame_then None behind = []
frame_then (Some framed) behind = framed.frame ∷ behind framed.used

-- The frames of these bytes from `skip` bytes on. The list ends where none stands.
unfoldable pub frames_after : StreamInfo → ℕ → List ℕ → List Frame
frames_after info skip [] = []
frames_after info (suc skip) (b ∷ bytes) = frames_after info skip bytes
frames_after info zero (b ∷ bytes) =
    frame_then (next_frame info (b ∷ bytes)) (λ used. frames_after info (used - 1) bytes)

-- the frames of these bytes
abbrev pub frames_of : StreamInfo → List ℕ → List Frame
frames_of info bytes = frames_after info 0 bytes

-- their samples, one frame behind the other
unfoldable pub samples_in : StreamInfo → List ℕ → List ℤ
samples_in info bytes = flat_map (λ (frame : Frame). side_by_side frame.samples) (frames_of info bytes)

-- STREAMINFO tells how many samples each channel has, or 0 where that isn't known
abbrev pub limited : StreamInfo → List ℤ → List ℤ
limited info samples = if info.samples == 0 then samples else take (info.channels * info.samples) samples

-- the samples of a file, from the first frame's place on
abbrev pub file_samples : List ℕ → FlacHead → List ℤ
file_samples file head = limited head.info (samples_in head.info (drop head.first_frame file))
