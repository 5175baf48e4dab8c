use Rattle.song_db.proofs.LentOrder.{lent_set, lent_set_rises, lent_came, lent_came_rises}
use Rattle.song_db.proofs.told_rows.put_lent.Goals as goal

pub returns-in-Ok-clause-rows : goal.returns-in-Ok-clause-rows
returns-in-Ok-clause-rows c = lent_set c.args.told.now.items c.args.row c.in-Ok.at (rw c.deref.ensures.value at c.in-Ok.ensures.there)

pub returns-in-Ok-clause-rising : goal.returns-in-Ok-clause-rising
returns-in-Ok-clause-rising c = lent_set_rises c.args.told.now.items c.args.row c.in-Ok.at (rw c.deref.ensures.value at
    c.in-Ok.ensures.there) c.requires

pub returns-in_ok-insert-in-Err-clause-rows : goal.returns-in_ok-insert-in-Err-clause-rows
returns-in_ok-insert-in-Err-clause-rows c = rw c.in_ok-insert-in-Err.ensures.items (lent_came c.args.told.now.items c.args.row
    c.in-Err.at (rw c.deref.ensures.value at c.in-Err.ensures.absent))

pub returns-in_ok-insert-in-Err-clause-rising : goal.returns-in_ok-insert-in-Err-clause-rising
returns-in_ok-insert-in-Err-clause-rising c = rw c.in_ok-insert-in-Err.ensures.items (lent_came_rises c.args.told.now.items c.args.row
    c.in-Err.at (rw c.deref.ensures.value at c.in-Err.ensures.absent) c.requires)
