use Rattle.std.proofs.Common.{sym, ◌∙◌}
use Rattle.song_db.proofs.ToldKeys.{texts_same}
use Rattle.song_db.proofs.letters.compare_texts.Goals as goal

pub returns-then-eq : goal.returns-then-eq
returns-then-eq c = texts_same c.args.left.now c.args.right.now (sym c.eq.ensures ∙ c.if-eq.true)
