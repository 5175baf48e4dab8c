use Rattle.std.proofs.Common.{◌∙◌}
use Rattle.song_db.proofs.LentOrder.{rows_of, told_passing}
use Rattle.song_db.proofs.song_db.SongDb.in_told_order.Goals as goal

pub returns-clause-rows : goal.returns-clause-rows
returns-clause-rows c = λ passes some. c.in_ok-in_told_order.ensures.rows ∙ told_passing passes c.args.self.now (rows_of c.args.rows.now)
    (rw c.self.view_is at c.self.invariant.database.rising) some
