use Rattle.song_db.proofs.BelowOrder.{points_rise, below_range}
use Rattle.song_db.proofs.folder_rows.run_below.Goals as goal

pub returns-clause-rise : goal.returns-clause-rise
returns-clause-rise c = points_rise c.args.rows.now c.args.folder.now c.folder_point-start.result c.end_below-end.result
    c.folder_point-start.ensures.bound c.folder_point-start.ensures.split c.end_below-end.ensures.split

pub returns-clause-run : goal.returns-clause-run
returns-clause-run c = below_range c.args.rows.now c.args.folder.now c.folder_point-start.result c.end_below-end.result
    c.folder_point-start.ensures.bound c.folder_point-start.ensures.split c.end_below-end.ensures.split
