-- What stands behind the samples of the WAVE file that a FLAC file stands for.
use Rattle.std.specs.Prelude.{ℕ, ◌+◌, List, ◌++◌, length, replicate, slice_range}
use Rattle.as_wave.specs.declared.flac_tag.FlacTag.{FlacTag}
use Rattle.as_wave.specs.declared.flac_tail.FlacTail.{FlacTail}

-- the bytes of a tag, of which those of a picture stand in the file
abbrev pub tag_at : List ℕ → FlacTag → List ℕ
tag_at file tag = tag.front.items ++ slice_range file tag.picture (tag.picture + tag.picture_len)

abbrev pub tail_len : FlacTail → ℕ
tail_len tail = length tail.front.items + (tail.picture_len + tail.pad)

-- a chunk up to a picture's bytes, those bytes, and a pad byte or none
abbrev pub tail_bytes : FlacTail → List ℕ → List ℕ
tail_bytes tail file =
    tail.front.items ++ (slice_range file tail.picture (tail.picture + tail.picture_len) ++ replicate tail.pad 0)
