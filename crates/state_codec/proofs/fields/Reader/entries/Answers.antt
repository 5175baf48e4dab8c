use Rattle.std.proofs.Common.{arith}
use Rattle.state_codec.specs.ReadingSaved.{entry_at}
use Rattle.state_codec.proofs.LoopLaws.{items_go_on, one_counted, items_fail, items_done}
use Rattle.state_codec.proofs.fields.Reader.entries.Goals as goal

pub returns-in-Err-entry : goal.returns-in-Err-entry
returns-in-Err-entry c = items_fail (entry_at c.args.songs.now c.args.version c.args.next_id) c.args.count c.loop-i._i _ _ _ _ (omega arith)
    c.in-Err-entry.ensures c.loop-i.invariant.1.1.0

pub loop-i-preserved : goal.loop-i-preserved
loop-i-preserved c =
    let g = c.in-Ok-entry.ensures in
    rw g.2 (
      c.loop-i.invariant.0,
      (
        c.loop-i.invariant.1.0,
        (
          items_go_on (entry_at c.args.songs.now c.args.version c.args.next_id) c.args.count c.loop-i._i _ _ g.0 _ _
              (omega arith) g.1 c.loop-i.invariant.1.1.0,
          one_counted _ g.0 _ c.loop-i.invariant.1.1.1,
        ),
      ),
    )

pub returns : goal.returns
returns c = rw c.finish.ensures (
  items_done (entry_at c.args.songs.now c.args.version c.args.next_id) c.args.count c.loop-i._i _ _ _
      (omega arith) c.loop-i.invariant.1.1.0,
  c.loop-i.invariant.0,
  c.loop-i.invariant.1.0,
)
