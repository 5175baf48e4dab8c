use Rattle.song_head.proofs.Fitting.{reading_fits}
use Rattle.song_head.proofs.laws.texts_fit.Goals as goal

pub returns : goal.returns
returns c = record { short = reading_fits }
