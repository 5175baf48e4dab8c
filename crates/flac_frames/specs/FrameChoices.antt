-- What an encoder writes of a frame, by its choices (RFC 9639, section 9).
use Rattle.std.specs.Prelude.{ℕ, zero, suc, ◌+◌, ◌-◌, ◌/◌, ◌%◌, ◌^◌, ◌==◌, Bool, true, false, List, [], ◌∷◌, ◌++◌, length, ℤ, ◌+ℤ◌, ◌-ℤ◌}
use Rattle.std.specs.Prelude.{if◌then◌else◌}
use Rattle.std.specs.Int.{int_shr}
use Rattle.flac_frames.specs.Bits.{bits_of_number, number_of}
use Rattle.flac_frames.specs.Crc.{crc_8, crc_16}
use Rattle.flac_frames.specs.Decorrelation.{first_width, second_width, each_pair}
use Rattle.flac_frames.specs.Frame.{Frame}
use Rattle.flac_frames.specs.Choices.{SubframeChoice, subframe_bits}
use Rattle.flac_frames.specs.declared.head.FrameHead.{FrameHead}
use Rattle.flac_frames.specs.declared.head.Channels.{Channels}
use Rattle.flac_frames.specs.declared.head.Channels.TheVariants.{Mono, Stereo, LeftSide, SideRight, MidSide}

-- how the block size is told: by a code of the table, or in one byte or two behind the head's number
pub data SizeCode : Type 0 where
  TableSize : ℕ → SizeCode
  ByteSize : SizeCode
  WordSize : SizeCode

-- how the rate is told: by a code of the table, or behind that in thousands, ones or tens
pub data RateCode : Type 0 where
  TableRate : ℕ → RateCode
  Thousands : RateCode
  Ones : RateCode
  Tens : RateCode

-- how size, rate and bits a sample are told, how many bytes follow the first of the coded number, and the subframes
pub record FrameChoice : Type 0 where
  pub size : SizeCode
  pub rate : RateCode
  pub bits : ℕ
  pub further : ℕ
  pub first : SubframeChoice
  pub second : SubframeChoice

abbrev pub size_code : SizeCode → ℕ
size_code (TableSize code) = code
size_code ByteSize = 6
size_code WordSize = 7

abbrev pub size_bits : SizeCode → ℕ → List Bool
size_bits (TableSize code) size = []
size_bits ByteSize size = bits_of_number 8 (size - 1)
size_bits WordSize size = bits_of_number 16 (size - 1)

abbrev pub rate_code : RateCode → ℕ
rate_code (TableRate code) = code
rate_code Thousands = 12
rate_code Ones = 13
rate_code Tens = 14

abbrev pub rate_bits : RateCode → ℕ → List Bool
rate_bits (TableRate code) rate = []
rate_bits Thousands rate = bits_of_number 8 (rate / 1000)
rate_bits Ones rate = bits_of_number 16 rate
rate_bits Tens rate = bits_of_number 16 (rate / 10)

abbrev pub channels_code : Channels → ℕ
channels_code Mono = 0
channels_code Stereo = 1
channels_code LeftSide = 8
channels_code SideRight = 9
channels_code MidSide = 10

-- the first byte of a coded number begins with as many ones as there are bytes, or a zero where it is alone
abbrev pub lead_base : ℕ → ℕ
lead_base further =
    if further == 0 then 0 else if further == 1 then 192 else if further == 2 then 224 else if further == 3 then 240
    else if further == 4 then 248 else if further == 5 then 252 else 254

unfoldable pub further_bits : ℕ → ℕ → List Bool
further_bits zero number = []
further_bits (suc n) number = bits_of_number 8 (128 + number / 64 ^ n % 64) ++ further_bits n number

abbrev pub number_bits : ℕ → ℕ → List Bool
number_bits further number = bits_of_number 8 (lead_base further + number / 64 ^ further) ++ further_bits further number

abbrev pub strategy_bit : Bool → ℕ
strategy_bit true = 1
strategy_bit false = 0

-- the head up to its CRC
abbrev pub head_bits : FrameChoice → FrameHead → List Bool
head_bits choice head =
    bits_of_number 15 0x7ffc ++ (bits_of_number 1 (strategy_bit head.is_variable) ++ (bits_of_number 4 (size_code choice.size)
    ++ (bits_of_number 4 (rate_code choice.rate) ++ (bits_of_number 4 (channels_code head.channels) ++ (bits_of_number 3 choice.bits
    ++ (bits_of_number 1 0 ++ (number_bits choice.further head.number ++ (size_bits choice.size head.block_size
    ++ rate_bits choice.rate head.rate))))))))

-- what is coded of left and right
abbrev pub first_of : Channels → ℤ → ℤ → ℤ
first_of Mono left right = left
first_of Stereo left right = left
first_of LeftSide left right = left
first_of SideRight left right = left -ℤ right
first_of MidSide left right = int_shr (left +ℤ right) 1

abbrev pub second_of : Channels → ℤ → ℤ → ℤ
second_of Mono left right = right
second_of Stereo left right = right
second_of LeftSide left right = left -ℤ right
second_of SideRight left right = right
second_of MidSide left right = left -ℤ right

-- what is told of the samples: those of the one channel, or of two
abbrev pub sound_bits : FrameChoice → FrameHead → List (List ℤ) → List Bool
sound_bits choice head [] = []
sound_bits choice head (samples ∷ []) = subframe_bits choice.first head.bits samples
sound_bits choice head (left ∷ right ∷ more) =
    subframe_bits choice.first (first_width head.channels head.bits) (each_pair (first_of head.channels) left right)
    ++ subframe_bits choice.second (second_width head.channels head.bits) (each_pair (second_of head.channels) left right)

-- behind some bits those of a check of them
abbrev pub checked : ℕ → (List Bool → ℕ) → List Bool → List Bool
checked width check bits = bits ++ bits_of_number width (check bits)

-- zeros behind so many bits, up to a byte
abbrev pub padding_bits : ℕ → List Bool
padding_bits count = bits_of_number ((8 - count % 8) % 8) 0

abbrev pub padded : List Bool → List Bool
padded bits = bits ++ padding_bits (length bits)

-- the frame
abbrev pub frame_bits : FrameChoice → Frame → List Bool
frame_bits choice frame = checked 16 crc_16 (padded (checked 8 crc_8 (head_bits choice frame.head) ++ sound_bits choice frame.head frame.samples))

-- bytes of these bits, eight each
unfoldable pub bytes_of_bits : List Bool → List ℕ
bytes_of_bits (a ∷ b ∷ c ∷ d ∷ e ∷ f ∷ g ∷ h ∷ bits) = number_of (a ∷ b ∷ c ∷ d ∷ e ∷ f ∷ g ∷ h ∷ []) ∷ bytes_of_bits bits
bytes_of_bits bits = []

abbrev pub frame_bytes : FrameChoice → Frame → List ℕ
frame_bytes choice frame = bytes_of_bits (frame_bits choice frame)
