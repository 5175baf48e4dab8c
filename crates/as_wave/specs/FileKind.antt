-- What a file is, by its front.
use Rattle.std.specs.Prelude.{ℕ, ◌+◌, List, slice_range, ◌==◌, ◌&&◌, Bool, codes, if◌then◌else◌}
use Rattle.std.specs.Str.{bytes_eq}
use Rattle.wave_pcm.specs.Format.{u16_at}
use Rattle.as_wave.specs.declared.file_kind.FileKind.{FileKind}
use Rattle.as_wave.specs.declared.file_kind.FileKind.TheVariants.{Ogg, Flac, Rf64, Aiff, Mp4, Wave, Other}

-- these four bytes stand at a place
abbrev pub has_at : ℕ → List ℕ → List ℕ → Bool
has_at at id front = bytes_eq (slice_range front at (at + 4)) id

-- a WAVE file whose first chunk is the format
abbrev pub has_format : List ℕ → Bool
has_format front = has_at 0 (codes "RIFF") front && has_at 8 (codes "WAVE") front && has_at 12 (codes "fmt ") front

-- the format tag, or the front of the sub-format where the tag is 0xFFFE
abbrev pub tag_in : List ℕ → ℕ
tag_in front = if u16_at 20 front == 0xFFFE then u16_at 44 front else u16_at 20 front

abbrev pub kind_of : List ℕ → FileKind
kind_of front =
    if has_at 0 (codes "OggS") front then Ogg
    else if has_at 0 (codes "fLaC") front then Flac
    else if has_at 0 (codes "RF64") front then Rf64
    else if has_at 8 (codes "AIFF") front then Aiff
    else if has_at 4 (codes "ftyp") front then Mp4
    else if has_format front then Wave (tag_in front) (u16_at 34 front) (u16_at 22 front)
    else Other
