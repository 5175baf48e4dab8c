use Rattle.song_db.specs.Row.{row_at}
use Rattle.song_db.proofs.RowPlaces.{single}
use Rattle.song_db.proofs.known_rows.own_row.Goals as goal

pub returns-in-Some : goal.returns-in-Some
returns-in-Some c = single c.args.rows.now c.in-Some.at (row_at c.args.rows.now c.args.uri.now) c.in-Some.ensures.bound
    c.in-Some.ensures.row
