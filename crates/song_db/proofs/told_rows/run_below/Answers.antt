use Rattle.song_db.proofs.ToldBelow.{told_points_rise, told_range}
use Rattle.song_db.proofs.told_rows.run_below.Goals as goal

pub returns-clause-rise : goal.returns-clause-rise
returns-clause-rise c = told_points_rise c.args.told.now c.args.folder.now c.folder_point-start.result c.folder_point-end.result
    c.folder_point-start.ensures.bound c.folder_point-start.ensures.split c.folder_point-end.ensures.split

pub returns-clause-run : goal.returns-clause-run
returns-clause-run c = told_range c.args.told.now c.args.folder.now c.folder_point-start.result c.folder_point-end.result
    c.folder_point-start.ensures.bound c.folder_point-start.ensures.split c.folder_point-end.ensures.split
