use Rattle.std.proofs.Common.{◌<◌, ◌≤◌, length, arith}
use Rattle.std.specs.List.{filter_map}
use Rattle.song_db.specs.Query.{folder_of, distinct_of}
use Rattle.song_db.proofs.FolderRuns.{run_taken}
use Rattle.song_db.proofs.values.folders_of.Goals as goal

pub rows-smaller-in_ok-insert-in-Some : goal.rows-smaller-in_ok-insert-in-Some
rows-smaller-in_ok-insert-in-Some c =
    let found = rw c.uri.ensures.text at c.in-Some.ensures.folder in
    let below = rw c.uri.ensures.text at c.in-Some.ensures.below in
    let run = run_taken c.args.place c.args.rows.now c.rows.folders (distinct_of (filter_map (λ row. folder_of c.args.place
    row.uri) c.args.rows.now)) c.in-Some.folder.now c.rows.at c.end_below-at.result c.index-rows-at.result c.requires
    c.rows-test.true c.end_below-at.ensures.bound c.index-rows-at.is found below c.end_below-at.ensures.split c.rows.invariant.told in
    let above : c.rows.at < c.end_below-at.result = run.0 in
    let bound : c.end_below-at.result ≤ length c.args.rows.now = c.end_below-at.ensures.bound in
    omega arith

pub rows-preserved-in_ok-insert-in-Some : goal.rows-preserved-in_ok-insert-in-Some
rows-preserved-in_ok-insert-in-Some c =
    let found = rw c.uri.ensures.text at c.in-Some.ensures.folder in
    let below = rw c.uri.ensures.text at c.in-Some.ensures.below in
    let run = run_taken c.args.place c.args.rows.now c.rows.folders (distinct_of (filter_map (λ row. folder_of c.args.place
    row.uri) c.args.rows.now)) c.in-Some.folder.now c.rows.at c.end_below-at.result c.index-rows-at.result c.requires
    c.rows-test.true c.end_below-at.ensures.bound c.index-rows-at.is found below c.end_below-at.ensures.split c.rows.invariant.told in
    record { within = c.end_below-at.ensures.bound; told = rw c.in_ok-insert-in-Some.ensures.ok run.1 }
