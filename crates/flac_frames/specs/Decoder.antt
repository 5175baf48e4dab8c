-- What a decoder shows.
use Rattle.std.specs.Prelude.{List, [], ◌∷◌, ℤ, if◌then◌else◌, ◌==◌}
use Rattle.flac_frames.specs.Frame.{Framed}
use Rattle.flac_frames.specs.declared.frame.FrameDecoder.{FrameDecoder}
use Rattle.flac_frames.specs.declared.frame.FrameRead.{FrameRead}

-- the samples of each channel of the frame that was read last
abbrev pub samples_of : FrameDecoder → List (List ℤ)
samples_of decoder =
    if decoder.channels == 0 then []
    else if decoder.channels == 1 then decoder.first.items ∷ []
    else decoder.first.items ∷ decoder.second.items ∷ []

-- what a call says of the frame that it read, with the samples that the decoder then shows
abbrev pub framed_as : FrameRead → List (List ℤ) → Framed
framed_as read samples = record { frame = record { head = read.head; samples = samples }; used = read.used }
