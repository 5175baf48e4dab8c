use Rattle.std.proofs.Common.{◌≡◌, ◌≤◌, ◌-◌, length, drop, arith, length-take, length-drop}
use Rattle.std.specs.List.{slice_range}
use Rattle.song_db.specs.Told.{told_key}
use Rattle.song_db.proofs.RowSplits.{range_rises, split_within}
use Rattle.song_db.proofs.told_near.told_point.Goals as goal

pub split_told-requires : goal.split_told-requires
split_told-requires g c = range_rises g.T.ToldSong.key c.args.told.now c.span_near-low.result.0 c.span_near-low.result.1 c.requires

pub returns-clause-split : goal.returns-clause-split
returns-clause-split g c =
    let low = c.span_near-low.result.0 in
    let high = c.span_near-low.result.1 in
    let size : length (slice_range c.args.told.now low high) ≡ high - low = omega (
      arith,
      length-take (high - low) (drop low c.args.told.now),
      length-drop low c.args.told.now,
      c.span_near-low.ensures.within,
    ) in
    let short : c.split_told.result ≤ high - low = omega (arith, size, c.split_told.ensures.bound) in
    split_within g.T.ToldSong.key c.args.told.now (told_key c.args.row.now) low high c.split_told.result c.span_near-low.ensures.forward
    c.span_near-low.ensures.within c.span_near-low.ensures.before c.span_near-low.ensures.behind short size c.split_told.ensures.split
