use Rattle.song_db.proofs.Walks.{is_walk}
use Rattle.song_db.proofs.song_db.SongDb.walk.Goals as goal

pub returns-clause-whole : goal.returns-clause-whole
returns-clause-whole c = rw (c.new.ensures, c.in_ok-rows.ensures.rows) (is_walk c.args.place c.args.self.now (rw
    c.in_ok-rows.ensures.rows at c.in_ok-rows.ensures.rising))
