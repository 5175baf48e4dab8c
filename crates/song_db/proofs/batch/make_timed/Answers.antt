use Rattle.std.proofs.Common.{◌≡◌, sym, ap, ◌∙◌}
use Rattle.song_db.specs.ValueIndex.{coming}
use Rattle.song_db.proofs.TagCounts.{counts_few}
use Rattle.song_db.proofs.Timing.{total_fits, loss_counted, timed_after}
use Rattle.song_db.proofs.ToldOrder.{told_rises}
use Rattle.song_db.proofs.Turns.{database_after}
use Rattle.song_db.proofs.batch.make_timed.Goals as goal

pub total_after-requires-clause-lost : goal.total_after-requires-clause-lost
total_after-requires-clause-lost c =
    rw (c.make_change-effect.ensures.effect, c.requires.kept.timed.sum) (loss_counted c.args.rows.now.items c.into_parts-change.result.0)

pub total_after-requires-clause-fits : goal.total_after-requires-clause-fits
total_after-requires-clause-fits c =
    total_fits c.args.rows.now.items c.args.total.now c.gain-gain.result c.requires.kept.database c.requires.kept.timed
    c.gain-gain.ensures.bound

pub follow_counts-requires : goal.follow_counts-requires
follow_counts-requires c = counts_few c.args.rows.now.items c.args.counts.now c.requires.kept.database c.requires.kept.counted

pub follow_told-requires-clause-rising : goal.follow_told-requires-clause-rising
follow_told-requires-clause-rising c = rw c.requires.kept.told (told_rises c.args.rows.now.items)

pub returns-clause-kept : goal.returns-clause-kept
returns-clause-kept c =
    let rows = c.args.rows.now.items in
    let change = c.into_parts-change.result.0 in
    let kept = c.requires.kept in
    let copied : c.into_parts-change.result.1 ≡ coming change
    = c.into_parts-change.ensures.copy ∙ ap coming (sym c.into_parts-change.ensures.change) in
    rw c.make_change-effect.ensures.rows record {
      database = database_after rows change kept.database;
      timed = rw (c.total_after.ensures, c.gain-gain.ensures.gain, c.make_change-effect.ensures.effect)
          (timed_after rows change c.args.total.now kept.database kept.timed (rw c.gain-gain.ensures.gain at c.gain-gain.ensures.bound));
      indexed = c.follow.ensures rows change kept.database.rising c.coming-row.ensures c.make_change-effect.ensures.effect kept.indexed;
      told = c.follow_told.ensures.told rows change kept.database.rising copied c.make_change-effect.ensures.effect
          kept.told;
      counted = c.follow_counts.ensures rows change kept.database (c.as_ref.ensures.value ∙ copied)
          c.make_change-effect.ensures.effect kept.counted;
    }
