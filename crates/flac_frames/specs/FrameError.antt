-- The numbers of the refusals.
use Rattle.std.specs.Prelude.{ℕ}
use Rattle.flac_frames.specs.declared.refusal.FrameError.{FrameError}
use Rattle.flac_frames.specs.declared.refusal.FrameError.TheVariants.{NoMemory, Ended, NoSync, Forbidden, TooLarge, TooManyChannels}
use Rattle.flac_frames.specs.declared.refusal.FrameError.TheVariants.{RateNotSupported, BitsNotSupported, HeadCrc, FrameCrc}

abbrev pub number_of : FrameError → ℕ
number_of Ended = 61
number_of NoSync = 62
number_of Forbidden = 63
number_of TooLarge = 64
number_of TooManyChannels = 65
number_of RateNotSupported = 66
number_of NoMemory = 7
number_of BitsNotSupported = 67
number_of HeadCrc = 68
number_of FrameCrc = 69
