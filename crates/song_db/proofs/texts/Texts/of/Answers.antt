use Rattle.song_db.proofs.Gathered.{collected}
use Rattle.song_db.proofs.texts.Texts.of.Goals as goal

pub returns : goal.returns
returns c = collected c.args.texts.items c.in_ok-set_of.field-0 c.in_ok-set_of.ensures
