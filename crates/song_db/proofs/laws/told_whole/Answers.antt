use Rattle.song_db.proofs.ToldOrder.{told_rises}
use Rattle.song_db.proofs.ToldWhole.{told_counts}
use Rattle.song_db.proofs.laws.told_whole.Goals as goal

pub returns-clause-rising : goal.returns-clause-rising
returns-clause-rising c = told_rises

pub returns-clause-whole : goal.returns-clause-whole
returns-clause-whole c = told_counts
