use Rattle.std.proofs.Common.{sym, arith}
use Rattle.song_db.specs.Row.{row_uri}
use Rattle.song_db.proofs.RowSplits.{before_of, behind_of}
use Rattle.song_db.proofs.near.span_near.Goals as goal

pub span_up-requires-clause-before : goal.span_up-requires-clause-before
span_up-requires-clause-before c = before_of row_uri c.args.rows.now c.args.uri.now c.uri.result.now c.args.number
    c.index-rows-number.result c.requires (omega arith) c.index-rows-number.is c.uri.ensures.text (sym c.if-lt.ensures)

pub span_down-requires-2-clause-behind : goal.span_down-requires-2-clause-behind
span_down-requires-2-clause-behind c = behind_of row_uri c.args.rows.now c.args.uri.now c.uri.result.now c.args.number
    c.index-rows-number.result c.requires (omega arith) c.index-rows-number.is c.uri.ensures.text (sym c.if-lt.ensures)
