use Rattle.std.proofs.Common.{refl, sym, ap, ◌∙◌, arith}
use Rattle.std.specs.Ordering.{is_lt}
use Rattle.song_db.specs.Told.{told_key}
use Rattle.song_db.proofs.RowSplits.{before_of, behind_of}
use Rattle.song_db.proofs.told_near.span_near.Goals as goal

pub span_up-requires-clause-before : goal.span_up-requires-clause-before
span_up-requires-clause-before g c = before_of g.T.ToldSong.key c.args.told.now (told_key c.args.row.now)
    (g.T.ToldSong.key c.index-told-near.result) c.args.near c.index-told-near.result c.requires (omega arith) c.index-told-near.is refl
    (sym (ap is_lt c.compare.ensures) ∙ sym c.is_lt.ensures ∙ c.if-is_lt.true)

pub span_down-requires-2-clause-behind : goal.span_down-requires-2-clause-behind
span_down-requires-2-clause-behind g c = behind_of g.T.ToldSong.key c.args.told.now (told_key c.args.row.now)
    (g.T.ToldSong.key c.index-told-near.result) c.args.near c.index-told-near.result c.requires (omega arith) c.index-told-near.is refl
    (sym (ap is_lt c.compare.ensures) ∙ sym c.is_lt.ensures ∙ c.if-is_lt.false)
