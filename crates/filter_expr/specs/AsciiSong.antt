-- Songs whose texts are plain ASCII.
use Rattle.std.specs.Prelude.{IsAscii}
use Rattle.std.specs.List.{All}
use Rattle.song_files.specs.Tags.{TagText}
use Rattle.filter_expr.specs.Meaning.{Song}

-- the URI and the texts of all tags
pub record IsAsciiSong (song : Song) : Type 0 where
  pub uri : IsAscii song.uri
  pub texts : All (λ (t : TagText). IsAscii t.text) song.tags
