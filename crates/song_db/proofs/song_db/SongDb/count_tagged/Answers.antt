use Rattle.std.proofs.Common.{◌≡◌, ◌∙◌, ap, arith}
use Rattle.std.specs.Prelude.{slice_index_or}
use Rattle.song_db.specs.Tagged.{count_tagged}
use Rattle.song_db.proofs.TagCounts.{count_bound, counted_at}
use Rattle.song_db.proofs.song_db.SongDb.count_tagged.Goals as goal

pub returns-clause-count : goal.returns-clause-count
returns-clause-count c =
    counted_at c.args.tag c.self.inside.rows.items c.self.inside.counts c.from.result (c.from.ensures ∙ c.number.ensures.number)
    c.self.invariant.counted ∙ ap (count_tagged c.args.tag) c.self.view_is

pub returns-clause-few : goal.returns-clause-few
returns-clause-few c =
    let is : slice_index_or c.self.inside.counts c.from.result 0 ≡ count_tagged c.args.tag c.args.self.now
    = counted_at c.args.tag c.self.inside.rows.items c.self.inside.counts c.from.result (c.from.ensures ∙ c.number.ensures.number)
    c.self.invariant.counted ∙ ap (count_tagged c.args.tag) c.self.view_is in
    omega (arith, is, count_bound c.args.tag c.args.self.now)
