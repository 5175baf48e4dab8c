use Rattle.std.proofs.Common.{◌≡◌, [], ap, sym, ◌∙◌}
use Rattle.song_files.specs.declared.tag.Tag.TheVariants.{Genre}
use Rattle.song_files.specs.Tags.{TagText}
use Rattle.song_head.specs.Added.{with_texts}
use Rattle.song_head.proofs.Bracketed.{genres_told, genre_added}
use Rattle.song_head.proofs.frame_values.add_bracketed.Goals as goal

pub genres-preserved : goal.genres-preserved
genres-preserved c =
    genre_added c.genres.tags c.add_genre.new.tags c.first_genre.result.0.now c.genres.rest.now c.first_genre.result.1.now _
    c.first_genre.ensures.genres c.in_ok-add_genre.ensures c.genres.invariant
