use Rattle.std.proofs.Common.{◌-◌, refl, sym, ap, ◌∙◌, arith}
use Rattle.std.specs.Ordering.{is_lt}
use Rattle.song_db.specs.Told.{told_key}
use Rattle.song_db.proofs.RowSplits.{before_of, behind_of}
use Rattle.song_db.proofs.told_near.span_down.Goals as goal

pub returns-then-is_lt-clause-before : goal.returns-then-is_lt-clause-before
returns-then-is_lt-clause-before g c = before_of g.T.ToldSong.key c.args.told.now (told_key c.args.row.now)
    (g.T.ToldSong.key c.index-told-tried.result) (c.steps.high - c.steps.step) c.index-told-tried.result c.requires.rising (omega arith)
    c.index-told-tried.is refl (sym (ap is_lt c.compare.ensures) ∙ sym c.is_lt.ensures ∙ c.if-is_lt.true)

pub steps-preserved : goal.steps-preserved
steps-preserved g c = record {
  within = omega (arith, c.steps.invariant.within);
  some = omega (arith, c.steps.invariant.some, c.saturating_mul-step.ensures);
  behind = behind_of g.T.ToldSong.key c.args.told.now (told_key c.args.row.now) (g.T.ToldSong.key c.index-told-tried.result)
      (c.steps.high - c.steps.step) c.index-told-tried.result c.requires.rising (omega arith) c.index-told-tried.is refl
      (sym (ap is_lt c.compare.ensures) ∙ sym c.is_lt.ensures ∙ c.if-is_lt.false);
}
