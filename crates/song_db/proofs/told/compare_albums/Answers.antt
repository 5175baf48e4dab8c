use Rattle.std.proofs.Common.{◌∙◌}
use Rattle.song_db.proofs.ToldKeys.{album_cmp}
use Rattle.song_db.proofs.told.compare_albums.Goals as goal

pub returns-in-Some-Some : goal.returns-in-Some-Some
returns-in-Some-Some c = rw (c.in-Some-Some.is-0, c.in-Some-Some.is-1)
    (c.compare_texts.ensures ∙ album_cmp c.in-Some-Some.left.now c.in-Some-Some.right.now)
