use Rattle.std.proofs.Common.{◌≡◌, ◌+◌, ◌<◌, ◌^◌, true, sym, ◌∙◌, arith, rules}
use Rattle.song_db.specs.Last.{ends_before}
use Rattle.song_db.proofs.ToldFollows.{told_last}
use Rattle.song_db.proofs.ToldOrder.{told_rises}
use Rattle.song_db.proofs.TagCounts.{counts_few, last_counted}
use Rattle.song_db.proofs.LastRow.{last_database, last_timed}
use Rattle.song_db.proofs.Timing.{total_fits}
use Rattle.song_db.proofs.song_db.SongDb.push_last.Goals as goal

pub overflow_add-self : goal.overflow_add-self
overflow_add-self c = let fits : c.self.inside.total + c.milliseconds.result < 2 ^ 128 = total_fits c.self.inside.rows.items
    c.self.inside.total c.milliseconds.result c.self.invariant.database c.self.invariant.timed c.milliseconds.ensures.bound in search rules

pub put_told-requires-clause-rising : goal.put_told-requires-clause-rising
put_told-requires-clause-rising c = rw (c.in_ok-reserve-2.ensures.items, c.self.invariant.told) (told_rises c.self.inside.rows.items)

pub invariant_of-self-2 : goal.invariant_of-self-2
invariant_of-self-2 c =
    let before : ends_before c.self.inside.rows.items c.args.row.uri ≡ true = rw (c.uri.ensures.text, c.deref.ensures.value) at
    (sym c.ends_before.ensures ∙ c.if-not-ends_before.false) in
    let told = rw (c.in_ok-copy.ensures, c.in_ok-reserve-2.ensures.items, c.self.invariant.told) at c.put_told.ensures.rows in
    rw (c.push_reserved.ensures.items, c.in_ok-reserve.ensures.items) record {
      database = last_database c.self.inside.rows.items c.args.row c.self.invariant.database before (omega arith);
      timed = last_timed c.self.inside.rows.items c.args.row c.self.inside.total c.milliseconds.result c.self.invariant.timed
          c.milliseconds.ensures.value c.milliseconds.ensures.bound;
      indexed = c.with_last.ensures c.self.inside.rows.items c.self.invariant.database.rising before (rw c.take.ensures.value
          c.self.invariant.indexed);
      told = told ∙ told_last c.self.inside.rows.items c.args.row c.self.invariant.database.rising before;
      counted = last_counted c.self.inside.rows.items c.args.row c.self.inside.counts c.exchange.new.counts c.exchange.ensures
          c.self.invariant.counted;
    }

pub exchange-requires : goal.exchange-requires
exchange-requires c = counts_few c.self.inside.rows.items c.self.inside.counts c.self.invariant.database c.self.invariant.counted
