use Rattle.std.proofs.Common.{arith}
use Rattle.song_db.proofs.TextSteps.{values_more}
use Rattle.machine_core.specs.Finding.{told_texts, told_values}
use Rattle.machine_core.proofs.commands.finding.values.told_by_all.Goals as goal

pub loop-row-preserved : goal.loop-row-preserved
loop-row-preserved c =
    values_more (told_texts c.args.profile c.args.tag) c.args.rows.now c.loop-row.row-index c.row-item.result c.loop-row.values
    c.take_values.new.values (told_values c.args.profile c.args.rows.now c.args.tag) (omega arith) c.row-item.is c.in_ok-take_values.ensures
    c.loop-row.invariant
