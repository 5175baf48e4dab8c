use Rattle.std.proofs.Common.{◌<◌, ◌≤◌, length, ap, sym, ◌∙◌, arith}
use Rattle.std.specs.Prelude.{◌++◌, map}
use Rattle.song_db.proofs.FolderRuns.{run_passed}
use Rattle.song_db.proofs.values.songs_of.Goals as goal

pub rows-smaller-in-Some : goal.rows-smaller-in-Some
rows-smaller-in-Some c =
    let found = rw c.uri.ensures.text at c.in-Some.ensures.folder in
    let below = rw c.uri.ensures.text at c.in-Some.ensures.below in
    let run = run_passed c.args.place c.args.rows.now c.in-Some.folder.now c.rows.at c.end_below-at.result c.index-rows-at.result
    c.requires c.rows-test.true c.end_below-at.ensures.bound c.index-rows-at.is found below c.end_below-at.ensures.split in
    let above : c.rows.at < c.end_below-at.result = run.0 in
    let bound : c.end_below-at.result ≤ length c.args.rows.now = c.end_below-at.ensures.bound in
    omega arith

pub rows-preserved-in-Some : goal.rows-preserved-in-Some
rows-preserved-in-Some c =
    let found = rw c.uri.ensures.text at c.in-Some.ensures.folder in
    let below = rw c.uri.ensures.text at c.in-Some.ensures.below in
    let run = run_passed c.args.place c.args.rows.now c.in-Some.folder.now c.rows.at c.end_below-at.result c.index-rows-at.result
    c.requires c.rows-test.true c.end_below-at.ensures.bound c.index-rows-at.is found below c.end_below-at.ensures.split in
    record {
      within = c.end_below-at.ensures.bound;
      told = ap (λ rest. map (λ song. song.now) c.rows.songs.items ++ rest) (sym
          run.1) ∙ c.rows.invariant.told;
    }
