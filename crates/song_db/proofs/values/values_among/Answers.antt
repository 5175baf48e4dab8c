use Rattle.std.proofs.Common.{map, arith}
use Rattle.song_files.specs.Tags.{texts_of}
use Rattle.song_db.specs.Query.{distinct_of, values_of}
use Rattle.song_db.specs.Row.{Row}
use Rattle.song_db.proofs.Ordered.{shown}
use Rattle.song_db.proofs.TextSteps.{lent_more}
use Rattle.song_db.proofs.values.values_among.Goals as goal

pub loop-row-preserved : goal.loop-row-preserved
loop-row-preserved c =
    lent_more (λ (r : Row). texts_of r.tags c.args.tag) c.args.rows.now c.loop-row.row-index c.row-item.result
    (distinct_of (shown c.loop-row.values.items)) (distinct_of (shown c.push_values.new.values.items))
    (values_of (map (λ row. row.now) c.args.rows.now) c.args.tag) (omega arith) c.row-item.is c.in_ok-push_values.ensures
    c.loop-row.invariant
