-- The head of a frame (RFC 9639, section 9.1).
use Rattle.std.specs.Prelude.{ℕ, ◌+◌, ◌*◌, ◌^◌, ◌==◌, ◌&&◌, ◌||◌, Bool, nat_lt, nat_le, if◌then◌else◌}
use Rattle.flac_frames.specs.Reading.{Reader, ◌>>=◌, giving, refusing, only_if, unsigned}
use Rattle.flac_frames.specs.CodedNumber.{coded_number}
use Rattle.flac_frames.specs.declared.head.Stream.{Stream}
use Rattle.flac_frames.specs.declared.head.FrameHead.{FrameHead}
use Rattle.flac_frames.specs.declared.head.Channels.{Channels}
use Rattle.flac_frames.specs.declared.head.Channels.TheVariants.{Mono, Stereo, LeftSide, SideRight, MidSide}
use Rattle.flac_frames.specs.declared.refusal.FrameError.TheVariants.{NoSync, Forbidden, TooManyChannels, RateNotSupported}
use Rattle.flac_frames.specs.declared.refusal.FrameError.TheVariants.{BitsNotSupported}

-- the highest rate, in samples a second
abbrev pub MAX_RATE : ℕ
MAX_RATE = 192000

-- fourteen bits 11111111111110 and a zero bit
unfoldable pub sync : Reader ℕ
sync = do
  code ← unsigned 15
  only_if (code == 0x7ffc) NoSync code

-- a one where the blocks may differ in size, so that the frame tells its first sample's number and not its own
unfoldable pub blocking_strategy : Reader Bool
blocking_strategy = do
  bit ← unsigned 1
  giving (bit == 1)

-- section 9.1.3; more than two channels are not supported
unfoldable pub channels_of : ℕ → Reader Channels
channels_of code =
    if code == 0 then giving Mono
    else if code == 1 then giving Stereo
    else if nat_lt code 8 then refusing TooManyChannels
    else if code == 8 then giving LeftSide
    else if code == 9 then giving SideRight
    else if code == 10 then giving MidSide
    else refusing Forbidden

-- section 9.1.4; bits a sample, of which the stream has 4 to 32
unfoldable pub sample_bits_of : Stream → ℕ → Reader ℕ
sample_bits_of stream code =
    if code == 0 then only_if (nat_le 4 stream.bits && nat_le stream.bits 32) BitsNotSupported stream.bits
    else if code == 1 then giving 8
    else if code == 2 then giving 12
    else if code == 4 then giving 16
    else if code == 5 then giving 20
    else if code == 6 then giving 24
    else if code == 7 then giving 32
    else refusing Forbidden

unfoldable pub reserved_bit : Reader ℕ
reserved_bit = do
  bit ← unsigned 1
  only_if (bit == 0) Forbidden bit

-- the number of a frame has at most 31 bits, that of a sample at most 36
unfoldable pub frame_number : Bool → Reader ℕ
frame_number is_variable = do
  number ← coded_number
  only_if (is_variable || nat_lt number (2 ^ 31)) Forbidden number

-- sections 9.1.1 and 9.1.6; samples in the block
unfoldable pub block_size_of : ℕ → Reader ℕ
block_size_of code =
    if code == 0 then refusing Forbidden
    else if code == 1 then giving 192
    else if nat_lt code 6 then giving (144 * 2 ^ code)
    else if code == 6 then (do size ← unsigned 8; giving (size + 1))
    else if code == 7 then (do size ← unsigned 16; only_if (nat_lt size 65535) Forbidden (size + 1))
    else giving (2 ^ code)

-- sections 9.1.2 and 9.1.7; samples a second
unfoldable pub coded_rate : Stream → ℕ → Reader ℕ
coded_rate stream code =
    if code == 0 then giving stream.rate
    else if code == 1 then giving 88200
    else if code == 2 then giving 176400
    else if code == 3 then giving 192000
    else if code == 4 then giving 8000
    else if code == 5 then giving 16000
    else if code == 6 then giving 22050
    else if code == 7 then giving 24000
    else if code == 8 then giving 32000
    else if code == 9 then giving 44100
    else if code == 10 then giving 48000
    else if code == 11 then giving 96000
    else if code == 12 then (do thousands ← unsigned 8; giving (1000 * thousands))
    else if code == 13 then unsigned 16
    else if code == 14 then (do tens ← unsigned 16; giving (10 * tens))
    else refusing Forbidden

unfoldable pub rate_of : Stream → ℕ → Reader ℕ
rate_of stream code = do
  rate ← coded_rate stream code
  only_if (nat_le 1 rate && nat_le rate MAX_RATE) RateNotSupported rate

-- the head up to its CRC
unfoldable pub head_fields : Stream → Reader FrameHead
head_fields stream = do
  _ ← sync
  is_variable ← blocking_strategy
  size_code ← unsigned 4
  rate_code ← unsigned 4
  channels_code ← unsigned 4
  channels ← channels_of channels_code
  bits_code ← unsigned 3
  bits ← sample_bits_of stream bits_code
  _ ← reserved_bit
  number ← frame_number is_variable
  block_size ← block_size_of size_code
  rate ← rate_of stream rate_code
  giving (record {
    is_variable = is_variable;
    number = number;
    block_size = block_size;
    rate = rate;
    channels = channels;
    bits = bits;
  })
