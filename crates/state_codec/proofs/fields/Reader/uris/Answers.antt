use Rattle.std.proofs.Common.{arith}
use Rattle.state_codec.specs.ReadingRows.{uri_at}
use Rattle.state_codec.proofs.LoopLaws.{items_go_on, items_fail, items_done}
use Rattle.state_codec.proofs.fields.Reader.uris.Goals as goal

pub returns-in-Err : goal.returns-in-Err
returns-in-Err c = items_fail (λ known. uri_at) c.args.count c.loop-i._i _ _ _ _ (omega arith) c.in-Err.ensures c.loop-i.invariant

pub loop-i-preserved : goal.loop-i-preserved
loop-i-preserved c =
    rw c.in-Ok-push.ensures.ok (items_go_on (λ known. uri_at) c.args.count c.loop-i._i _ _ c.in-Ok.uri _ _ (omega arith) c.in-Ok.ensures
    c.loop-i.invariant)

pub returns : goal.returns
returns c = items_done (λ known. uri_at) c.args.count c.loop-i._i _ _ _ (omega arith) c.loop-i.invariant
