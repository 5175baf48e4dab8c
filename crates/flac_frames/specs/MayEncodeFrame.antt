-- Which choices an encoder may make of which frames.
use Rattle.std.specs.Prelude.{◌≡◌, ℕ, ◌/◌, ◌%◌, ◌^◌, ◌<◌, ◌≤◌, ◌==◌, ◌⊎◌, Bool, true, List, [], ◌∷◌, length, ℤ, Ok, if◌then◌else◌}
use Rattle.std.specs.List.{All}
use Rattle.flac_frames.specs.Bits.{fits}
use Rattle.flac_frames.specs.Decorrelation.{first_width, second_width, each_pair}
use Rattle.flac_frames.specs.Frame.{Frame, is_mono}
use Rattle.flac_frames.specs.FrameHead.{MAX_RATE, block_size_of, coded_rate, sample_bits_of}
use Rattle.flac_frames.specs.MayEncode.{MayTell}
use Rattle.flac_frames.specs.FrameChoices.{SizeCode, TableSize, ByteSize, WordSize, RateCode, TableRate, Thousands, Ones, Tens}
use Rattle.flac_frames.specs.FrameChoices.{FrameChoice, first_of, second_of}
use Rattle.flac_frames.specs.declared.head.Stream.{Stream}
use Rattle.flac_frames.specs.declared.head.FrameHead.{FrameHead}

-- a code of the standard's table tells the block size, whatever follows; or the number stands in bytes of its own
abbrev pub MayTellSize : SizeCode → ℕ → Type 0
MayTellSize (TableSize code) size = (code < 16) × ((rest : List Bool) → block_size_of code rest ≡ Ok (record { value = size; rest = rest }))
MayTellSize ByteSize size = (1 ≤ size) × (size ≤ 256)
MayTellSize WordSize size = (1 ≤ size) × (size ≤ 65535)

abbrev pub MayTellRate : Stream → RateCode → ℕ → Type 0
MayTellRate stream (TableRate code) rate =
    (code < 16) × ((rest : List Bool) → coded_rate stream code rest ≡ Ok (record { value = rate; rest = rest }))
MayTellRate stream Thousands rate = (rate % 1000 ≡ 0) × (rate / 1000 < 256)
MayTellRate stream Ones rate = rate < 65536
MayTellRate stream Tens rate = (rate % 10 ≡ 0) × (rate / 10 < 65536)

-- how many numbers the first byte of a coded number has room for
abbrev pub lead_room : ℕ → ℕ
lead_room further =
    if further == 0 then 128 else if further == 1 then 32 else if further == 2 then 16 else if further == 3 then 8
    else if further == 4 then 4 else if further == 5 then 2 else 1

pub record MayTellHead (stream : Stream) (choice : FrameChoice) (head : FrameHead) : Type 0 where
  pub size : MayTellSize choice.size head.block_size
  pub rate : MayTellRate stream choice.rate head.rate
  pub some_rate : 1 ≤ head.rate
  pub most_rate : head.rate ≤ MAX_RATE
  pub some_bits : 4 ≤ head.bits
  pub bits_code : choice.bits < 8
  pub bits : (rest : List Bool) → sample_bits_of stream choice.bits rest ≡ Ok (record { value = head.bits; rest = rest })
  pub bytes : choice.further ≤ 6
  pub number : head.number / 64 ^ choice.further < lead_room choice.further
  pub short : (head.is_variable ≡ true) ⊎ (head.number < 2 ^ 31)

-- as many samples as the block has, each of so many bits
pub record AreSamples (bits size : ℕ) (samples : List ℤ) : Type 0 where
  pub count : length samples ≡ size
  pub fit : All (λ sample. fits bits sample ≡ true) samples

-- one channel, or two that are coded as the head tells, each subframe as may be
abbrev pub MayTellSound : FrameChoice → FrameHead → List (List ℤ) → Type 0
MayTellSound choice head [] = ⊥
MayTellSound choice head (samples ∷ []) =
    (is_mono head.channels ≡ true) × AreSamples head.bits head.block_size samples × MayTell choice.first head.bits samples
MayTellSound choice head (left ∷ right ∷ []) =
    (is_mono head.channels ≡ Bool.false) × AreSamples head.bits head.block_size left × AreSamples head.bits head.block_size right
    × MayTell choice.first (first_width head.channels head.bits) (each_pair (first_of head.channels) left right)
    × MayTell choice.second (second_width head.channels head.bits) (each_pair (second_of head.channels) left right)
MayTellSound choice head (left ∷ right ∷ third ∷ more) = ⊥

pub record MayEncode (stream : Stream) (choice : FrameChoice) (frame : Frame) : Type 0 where
  pub head : MayTellHead stream choice frame.head
  pub sound : MayTellSound choice frame.head frame.samples

-- one channel or two, each with the samples of the block
abbrev pub IsSound : FrameHead → List (List ℤ) → Type 0
IsSound head [] = ⊥
IsSound head (samples ∷ []) = (is_mono head.channels ≡ true) × AreSamples head.bits head.block_size samples
IsSound head (left ∷ right ∷ []) =
    (is_mono head.channels ≡ Bool.false) × AreSamples head.bits head.block_size left × AreSamples head.bits head.block_size right
IsSound head (left ∷ right ∷ third ∷ more) = ⊥

-- A frame of the stream's rate and bits, within the limits: blocks of 1 to 65,535 samples of 4 to 32 bits; a frame's number has 31 bits,
-- and that of its first sample 36.
pub record CanBeEncoded (stream : Stream) (frame : Frame) : Type 0 where
  pub rate : frame.head.rate ≡ stream.rate
  pub some_rate : 1 ≤ stream.rate
  pub most_rate : stream.rate ≤ MAX_RATE
  pub bits : frame.head.bits ≡ stream.bits
  pub some_bits : 4 ≤ stream.bits
  pub most_bits : stream.bits ≤ 32
  pub some_samples : 1 ≤ frame.head.block_size
  pub most_samples : frame.head.block_size ≤ 65535
  pub number : frame.head.number < 64 ^ 6
  pub short : (frame.head.is_variable ≡ true) ⊎ (frame.head.number < 2 ^ 31)
  pub sound : IsSound frame.head frame.samples
