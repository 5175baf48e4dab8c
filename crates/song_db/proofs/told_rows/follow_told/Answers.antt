use Rattle.std.proofs.Common.{sym, ◌∙◌}
use Rattle.song_db.proofs.ToldOrder.{rises_without}
use Rattle.song_db.proofs.ToldFollows.{told_came, told_replaced, told_stays, told_went}
use Rattle.song_db.proofs.told_rows.follow_told.Goals as goal

pub returns-in-Went-clause-told : goal.returns-in-Went-clause-told
returns-in-Went-clause-told c = λ rows change rising is effect so. told_went c.in-Went.old c.args.told.now.items
    c.take_told.new.told.items rows change c.take_told.ensures.rows rising (sym c.in-Went.is ∙ effect) so

pub returns-in-Nothing-clause-told : goal.returns-in-Nothing-clause-told
returns-in-Nothing-clause-told c = λ rows change rising is effect so. told_stays c.args.effect.now rows change c.args.told.now.items
    c.in-Nothing.is rising effect so

pub returns-in-Came-clause-told : goal.returns-in-Came-clause-told
returns-in-Came-clause-told c = λ rows change rising is effect so. told_came c.args.copy c.args.told.now.items
    c.put_coming.new.told.items c.put_coming.ensures.rows rows change is (sym c.in-Came.is ∙ effect) so

pub returns-in-Replaced-clause-told : goal.returns-in-Replaced-clause-told
returns-in-Replaced-clause-told c = λ rows change rising is effect so. told_replaced c.args.copy c.in-Replaced.old c.args.told.now.items
    c.take_told-at.new.told.items c.put_coming-in-Replaced.new.told.items c.take_told-at.ensures.rows c.put_coming-in-Replaced.ensures.rows
    rows change rising is (sym c.in-Replaced.is ∙ effect) so

pub put_coming-requires-in-Replaced-clause-rising : goal.put_coming-requires-in-Replaced-clause-rising
put_coming-requires-in-Replaced-clause-rising c = rw c.take_told-at.ensures.rows (rises_without c.in-Replaced.old c.args.told.now.items
    c.requires.rising)
