use Rattle.std.proofs.Common.{◌-◌, sym, arith}
use Rattle.song_db.specs.Row.{row_uri}
use Rattle.song_db.proofs.RowSplits.{before_of, behind_of}
use Rattle.song_db.proofs.near.span_down.Goals as goal

pub returns-then-lt-clause-before : goal.returns-then-lt-clause-before
returns-then-lt-clause-before c = before_of row_uri c.args.rows.now c.args.uri.now c.uri.result.now (c.steps.high - c.steps.step)
    c.index-rows-tried.result c.requires.rising (omega arith) c.index-rows-tried.is c.uri.ensures.text (sym c.if-lt.ensures)

pub steps-preserved : goal.steps-preserved
steps-preserved c = record {
  within = omega (arith, c.steps.invariant.within);
  some = omega (arith, c.steps.invariant.some);
  behind = behind_of row_uri c.args.rows.now c.args.uri.now c.uri.result.now (c.steps.high - c.steps.step) c.index-rows-tried.result
      c.requires.rising (omega arith) c.index-rows-tried.is c.uri.ensures.text (sym c.if-lt.ensures);
}
