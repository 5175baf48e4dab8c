use Rattle.std.proofs.Common.{arith}
use Rattle.state_codec.specs.ReadingSaved.{playlist_at}
use Rattle.state_codec.proofs.LoopLaws.{items_go_on, one_counted, items_fail, items_done}
use Rattle.state_codec.proofs.fields.Reader.playlists.Goals as goal

pub returns-in-Err : goal.returns-in-Err
returns-in-Err c = items_fail playlist_at c.args.count c.loop-i._i _ _ _ _ (omega arith) c.in-Err.ensures c.loop-i.invariant.0

pub loop-i-preserved : goal.loop-i-preserved
loop-i-preserved c =
    let g = c.in-Ok.ensures in
    rw g.2 (
      items_go_on playlist_at c.args.count c.loop-i._i _ _ g.0 _ _ (omega arith) g.1 c.loop-i.invariant.0,
      one_counted _ g.0 _ c.loop-i.invariant.1,
    )

pub returns : goal.returns
returns c = items_done playlist_at c.args.count c.loop-i._i _ _ _ (omega arith) c.loop-i.invariant.0
