use Rattle.song_db.proofs.SameRows.{same_exactly}
use Rattle.song_db.proofs.row.SongRow.is_same.Goals as goal

pub returns-clause-same : goal.returns-clause-same
returns-clause-same c = same_exactly c.args.self.now c.args.other.now c.says_same.result c.says_same.ensures
