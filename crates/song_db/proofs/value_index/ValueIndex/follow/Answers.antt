use Rattle.std.proofs.Common.{sym, ◌∙◌}
use Rattle.song_db.proofs.Follows.{came_done, going_row, nothing_done, replaced_done, went_follows}
use Rattle.song_db.proofs.value_index.ValueIndex.follow.Goals as goal

pub returns-in-Went : goal.returns-in-Went
returns-in-Went c = λ rows change rising is effect made. went_follows rows change c.in-Went.old c.args.self.now
    c.take_row-in-Went.new.self rising (going_row rows change c.in-Went.old (sym c.in-Went.is ∙ effect)) c.take_row-in-Went.ensures made

pub returns-in-Nothing : goal.returns-in-Nothing
returns-in-Nothing c = λ rows change rising is effect made. nothing_done c.args.effect.now rows change c.args.self.now c.in-Nothing.is
    rising effect made

pub returns-in_ok-put_coming-in-Came : goal.returns-in_ok-put_coming-in-Came
returns-in_ok-put_coming-in-Came c = λ rows change rising is effect made. came_done c.args.row c.args.self.now c.put_coming.new.self
    c.in_ok-put_coming-in-Came.ensures rows change rising is (sym c.in-Came.is ∙ effect) made

pub returns-in_ok-put_coming-in-Replaced : goal.returns-in_ok-put_coming-in-Replaced
returns-in_ok-put_coming-in-Replaced c = λ rows change rising is effect made. replaced_done c.args.row c.in-Replaced.old c.args.self.now
    c.take_row.new.self c.put_coming-in-Replaced.new.self c.take_row.ensures c.in_ok-put_coming-in-Replaced.ensures rows change rising is
    (sym c.in-Replaced.is ∙ effect) made
