use Rattle.std.proofs.Common.{◌≡◌, ◌≤◌, ◌-◌, length, drop, arith, length-take, length-drop}
use Rattle.std.specs.List.{slice_range}
use Rattle.song_db.specs.Row.{row_uri}
use Rattle.song_db.proofs.RowSplits.{range_rises, split_within}
use Rattle.song_db.proofs.near.split_near.Goals as goal

pub split_point-requires : goal.split_point-requires
split_point-requires c = range_rises row_uri c.args.rows.now c.span_near-low.result.0 c.span_near-low.result.1 c.requires

pub returns-clause-split : goal.returns-clause-split
returns-clause-split c =
    let low = c.span_near-low.result.0 in
    let high = c.span_near-low.result.1 in
    let size : length (slice_range c.args.rows.now low high) ≡ high - low = omega (
      arith,
      length-take (high - low) (drop low c.args.rows.now),
      length-drop low c.args.rows.now,
      c.span_near-low.ensures.within,
    ) in
    let short : c.split_point.result ≤ high - low = omega (arith, size, c.split_point.ensures.bound) in
    split_within row_uri c.args.rows.now c.args.uri.now low high c.split_point.result c.span_near-low.ensures.forward
    c.span_near-low.ensures.within c.span_near-low.ensures.before c.span_near-low.ensures.behind short size c.split_point.ensures.split
