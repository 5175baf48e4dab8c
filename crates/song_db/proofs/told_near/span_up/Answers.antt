use Rattle.std.proofs.Common.{◌+◌, ◌-◌, refl, sym, ap, ◌∙◌, arith}
use Rattle.std.specs.Ordering.{is_lt}
use Rattle.song_db.specs.Told.{told_key}
use Rattle.song_db.proofs.RowSplits.{before_of, behind_of}
use Rattle.song_db.proofs.told_near.span_up.Goals as goal

pub returns-then-not-is_lt-clause-behind : goal.returns-then-not-is_lt-clause-behind
returns-then-not-is_lt-clause-behind g c = behind_of g.T.ToldSong.key c.args.told.now (told_key c.args.row.now)
    (g.T.ToldSong.key c.index-told-tried.result) (c.steps.low + c.steps.step - 1) c.index-told-tried.result c.requires.rising
    (omega arith) c.index-told-tried.is refl (sym (ap is_lt c.compare.ensures) ∙ sym c.is_lt.ensures ∙ c.if-not-is_lt.true)

pub steps-preserved : goal.steps-preserved
steps-preserved g c = record {
  within = omega arith;
  some = omega (arith, c.steps.invariant.some, c.saturating_mul-step.ensures);
  before = before_of g.T.ToldSong.key c.args.told.now (told_key c.args.row.now) (g.T.ToldSong.key c.index-told-tried.result)
      (c.steps.low + c.steps.step - 1) c.index-told-tried.result c.requires.rising (omega arith) c.index-told-tried.is refl
      (sym (ap is_lt c.compare.ensures) ∙ sym c.is_lt.ensures ∙ c.if-not-is_lt.false);
}
