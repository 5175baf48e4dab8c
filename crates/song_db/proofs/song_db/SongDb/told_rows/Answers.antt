use Rattle.song_db.proofs.ToldOrder.{told_few}
use Rattle.song_db.proofs.song_db.SongDb.told_rows.Goals as goal

pub returns-clause-few : goal.returns-clause-few
returns-clause-few c = rw (c.as_slice.ensures.value, c.self.invariant.told, c.self.view_is) (told_few c.args.self.now)
