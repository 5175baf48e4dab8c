use Rattle.std.proofs.Common.{arith}
use Rattle.state_codec.specs.ReadingRows.{row_at}
use Rattle.state_codec.specs.ReadingSaved.{next_uri_at}
use Rattle.state_codec.proofs.LoopLaws.{items_go_on, one_counted, items_fail, items_done}
use Rattle.state_codec.proofs.fields.Reader.rows.Goals as goal

pub returns-in-Err : goal.returns-in-Err
returns-in-Err c = items_fail (λ known. row_at c.args.profile (next_uri_at known)) c.args.count c.loop-i._i _ _ _ _ (omega arith) c.in-Err.ensures.row
    c.loop-i.invariant.0

pub loop-i-preserved : goal.loop-i-preserved
loop-i-preserved c =
    rw c.in-Ok-push_last.ensures.ok (
      items_go_on (λ known. row_at c.args.profile (next_uri_at known)) c.args.count c.loop-i._i _ _ c.in-Ok.row _ _ (omega arith) c.in-Ok.ensures.row
          c.loop-i.invariant.0,
      one_counted _ c.in-Ok.row _ c.loop-i.invariant.1,
    )

pub returns : goal.returns
returns c = items_done (λ known. row_at c.args.profile (next_uri_at known)) c.args.count c.loop-i._i _ _ _ (omega arith) c.loop-i.invariant.0
