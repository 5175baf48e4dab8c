use Rattle.std.proofs.Common.{arith}
use Rattle.song_db.proofs.Indexed.{made_more}
use Rattle.song_db.proofs.value_index.ValueIndex.of.Goals as goal

pub loop-row-preserved : goal.loop-row-preserved
loop-row-preserved c = made_more c.args.rows.now c.loop-row.row-index c.row-item.result c.loop-row.index c.put_row.new.self
    c.requires (omega arith) c.row-item.is c.in_ok-put_row.ensures c.loop-row.invariant
