use Rattle.std.proofs.Common.{inl, inr, sym, ◌∙◌}
use Rattle.song_db.proofs.TagCounts.{came_counted, replaced_counted, stays_counted, went_counted}
use Rattle.song_db.proofs.tag_counts.follow_counts.Goals as goal

pub returns-in-Nothing : goal.returns-in-Nothing
returns-in-Nothing c = λ rows change database is effect counted.
    stays_counted c.args.effect.now rows change c.args.counts.now (inl c.in-Nothing.is) database effect counted

pub returns-in-LeftOut : goal.returns-in-LeftOut
returns-in-LeftOut c = λ rows change database is effect counted.
    stays_counted c.args.effect.now rows change c.args.counts.now (inr (c.in-LeftOut.field-0, c.in-LeftOut.is)) database effect counted

pub returns-in-Came : goal.returns-in-Came
returns-in-Came c = λ rows change database is effect counted.
    came_counted _ rows change c.args.counts.now c.exchange.new.counts c.exchange.ensures database is (sym c.in-Came.is ∙ effect) counted

pub returns-in-Replaced : goal.returns-in-Replaced
returns-in-Replaced c = λ rows change database is effect counted.
    replaced_counted _ c.in-Replaced.old rows change c.args.counts.now c.exchange-in-Replaced.new.counts c.exchange-in-Replaced.ensures database is
    (sym c.in-Replaced.is ∙ effect) counted

pub returns-in-Went : goal.returns-in-Went
returns-in-Went c = λ rows change database is effect counted.
    went_counted c.in-Went.old rows change c.args.counts.now c.exchange-in-Went.new.counts c.exchange-in-Went.ensures database
    (sym c.in-Went.is ∙ effect) counted
