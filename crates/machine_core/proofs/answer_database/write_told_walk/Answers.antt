use Rattle.song_db.specs.Walk.{item_of}
use Rattle.machine_core.specs.Database.{item_lines}
use Rattle.command_text.proofs.LineLoops.{leaves_fewer, leaves_none, leaves_off}
use Rattle.machine_core.proofs.answer_database.write_told_walk.Goals as goal

pub loop-item-preserved : goal.loop-item-preserved
loop-item-preserved c =
    leaves_fewer (item_lines c.args.detail) c.args.walk (item_of c.in-Some.item) c.next.new.self _ _ _ _
    (rw c.in-Some.ensures.steps at c.loop-item.invariant) c.in_ok-write_item.ensures

pub returns-in_err-write_item : goal.returns-in_err-write_item
returns-in_err-write_item c =
    leaves_off (item_lines c.args.detail) c.args.walk (item_of c.in-Some.item) c.next.new.self _ _ _ _ _
    (rw c.in-Some.ensures.steps at c.loop-item.invariant) c.in_err-write_item.ensures c.from_residual.ensures.0

pub returns : goal.returns
returns c = leaves_none (item_lines c.args.detail) c.args.walk _ _ _ (rw c.in-None.ensures.steps.0 at c.loop-item.invariant)
