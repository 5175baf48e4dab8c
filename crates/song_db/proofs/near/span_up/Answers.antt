use Rattle.std.proofs.Common.{◌+◌, ◌-◌, sym, arith}
use Rattle.song_db.specs.Row.{row_uri}
use Rattle.song_db.proofs.RowSplits.{before_of, behind_of, not_under, under}
use Rattle.song_db.proofs.Rising.{texts}
use Rattle.song_db.proofs.near.span_up.Goals as goal

pub returns-then-ge-clause-behind : goal.returns-then-ge-clause-behind
returns-then-ge-clause-behind c = behind_of row_uri c.args.rows.now c.args.uri.now c.uri.result.now (c.steps.low + c.steps.step - 1)
    c.index-rows-tried.result c.requires.rising (omega arith) c.index-rows-tried.is c.uri.ensures.text (not_under (texts
    c.uri.result.now c.args.uri.now) (sym c.if-ge.ensures))

pub steps-preserved : goal.steps-preserved
steps-preserved c = record {
  within = omega arith;
  some = omega (arith, c.steps.invariant.some);
  before = before_of row_uri c.args.rows.now c.args.uri.now c.uri.result.now (c.steps.low + c.steps.step - 1) c.index-rows-tried.result
      c.requires.rising (omega arith) c.index-rows-tried.is c.uri.ensures.text (under (texts c.uri.result.now c.args.uri.now)
      (sym c.if-ge.ensures));
}
