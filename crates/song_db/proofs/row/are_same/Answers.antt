use Rattle.song_db.proofs.SameRows.{tags_told}
use Rattle.song_db.proofs.row.are_same.Goals as goal

pub returns : goal.returns
returns c = tags_told c.args.tags.now c.args.others.now c.is_same.result c.is_same.ensures
