-- The one reading of a FLAC file's head, or the refusal that stands first.
use Rattle.std.specs.Prelude.{ℕ, ◌+◌, ◌&&◌, nat_le, List, length, take, drop, Bool, codes, Result, Ok, Err, if◌then◌else◌}
use Rattle.std.specs.Str.{bytes_eq}
use Rattle.flac.specs.Blocks.{blocks_from, behind_all}
use Rattle.flac.specs.Comments.{comments_of}
use Rattle.flac.specs.Id3.{stream_start}
use Rattle.flac.specs.Limits.{MAX_BLOCKS}
use Rattle.flac.specs.Pictures.{pictures_of}
use Rattle.flac.specs.Steps.{◌>>=◌}
use Rattle.flac.specs.StreamInfo.{info_of}
use Rattle.flac.specs.declared.blocks.BlockHead.{BlockHead}
use Rattle.flac.specs.declared.head.FlacHead.{FlacHead}
use Rattle.flac.specs.declared.stream_info.StreamInfo.{StreamInfo}
use Rattle.flac.specs.declared.refusal.FlacError.{FlacError}
use Rattle.flac.specs.declared.refusal.FlacError.TheVariants.{NotFlac}

-- the marker `fLaC` stands there
abbrev pub has_marker_at : List ℕ → ℕ → Bool
has_marker_at file start = nat_le (start + 4) (length file) && bytes_eq (take 4 (drop start file)) (codes "fLaC")

abbrev pub head_of : List ℕ → List BlockHead → StreamInfo → FlacHead
head_of file blocks info = record {
  info = info;
  comments = comments_of file blocks;
  pictures = pictures_of file blocks;
  first_frame = behind_all
      blocks;
}

-- what the blocks of a file tell
unfoldable pub reading_of : List ℕ → List BlockHead → Result FlacHead FlacError
reading_of file blocks = do
  info ← info_of file blocks
  Ok (head_of file blocks info)

-- the blocks stand behind the marker
abbrev pub reading_at : List ℕ → ℕ → Result FlacHead FlacError
reading_at file start = if has_marker_at file start then (blocks_from MAX_BLOCKS file (start + 4) >>= reading_of file) else Err NotFlac

unfoldable pub flac_reading : List ℕ → Result FlacHead FlacError
flac_reading file = reading_at file (stream_start file)
